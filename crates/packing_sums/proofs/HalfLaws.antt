-- Sizes that are added up by halves.
use Rattle.std.proofs.Common.{◌≡◌, ℕ, zero, suc, ◌+◌, ◌^◌, ◌<◌, ◌≤◌, Bool, List, [], ◌∷◌, take, drop, ℤ, pos, neg_ℤ, ◌+ℤ◌, ◌≤ℤ◌, All, refl, ap, arith}
use Rattle.std.proofs.lemmas.Int.{ints}
use Rattle.std.proofs.lemmas.List.Elements.{All-weaker, All-take, All-drop, All-same}
use Rattle.signed_clause.specs.Clauses.{Boxes}
use Rattle.form_build.specs.declared.form.Linear.{Linear}
use Rattle.form_build.specs.Forms.{linear_at}
use Rattle.form_build.specs.Sums.{least_linear, greatest_linear, IsSum}
use Rattle.form_build.proofs.Linears.{sum_wider}
use Rattle.packing_sums.specs.Loads.{sizes_where, size_of}

size_halves : (k : ℕ) (ss : List (ℕ × ℕ)) → size_of (take k ss) + size_of (drop k ss) ≡ size_of ss
size_halves zero ss = omega arith
size_halves (suc k) [] = refl
size_halves (suc k) (s ∷ ss) = let rest = size_halves k ss in omega (arith, rest)

sizes_halves : (p : ℤ → Bool) (k : ℕ) (ss : List (ℕ × ℕ)) (a : List ℤ) → sizes_where p (take k ss) a + sizes_where p (drop k ss) a ≡ sizes_where p ss a
sizes_halves p zero ss a = omega arith
sizes_halves p (suc k) [] a = refl
sizes_halves p (suc k) (s ∷ ss) a = let rest = sizes_halves p k ss a in omega (arith, rest)

pub both_sizes : (k : ℕ) (ss front back : List (ℕ × ℕ)) → front ≡ take k ss → back ≡ drop k ss → size_of front + size_of back ≡ size_of ss
both_sizes k ss front back e h =
    let one = ap size_of e in
    let two = ap size_of h in
    let all = size_halves k ss in
    omega (arith, one, two, all)

pub front_items : (n k : ℕ) (ss front : List (ℕ × ℕ)) → front ≡ take k ss → All (λ s. s.0 < n) ss → All (λ s. s.0 < n) front
front_items n k ss front e h = All-same (λ s. s.0 < n) front (take k ss) e (All-take (λ s. s.0 < n) k ss h)

pub back_items : (m n k : ℕ) (ss back : List (ℕ × ℕ)) → back ≡ drop k ss → m ≤ n → All (λ s. s.0 < m) ss → All (λ s. s.0 < n) back
back_items m n k ss back e le h =
    All-weaker (λ s. s.0 < m) (λ s. s.0 < n) (λ s lt. omega (arith, le, lt)) back
    (All-same (λ s. s.0 < m) back (drop k ss) e (All-drop (λ s. s.0 < m) k ss h))

pub both_values : (p : ℤ → Bool) (a : List ℤ) (k : ℕ) (ss front back : List (ℕ × ℕ)) (f g r : Linear) → front ≡ take k ss → back ≡ drop k ss → linear_at f a ≡ pos (sizes_where p front a) → linear_at g a ≡ pos (sizes_where p back a) → linear_at r a ≡ (linear_at f a +ℤ linear_at g a) → linear_at r a ≡ pos (sizes_where p ss a)
both_values p a k ss front back f g r e h left right both =
    let one = ap (λ (z : List (ℕ × ℕ)). sizes_where p z a) e in
    let two = ap (λ (z : List (ℕ × ℕ)). sizes_where p z a) h in
    let all = sizes_halves p k ss a in
    omega (arith, ints, one, two, all, left, right, both)

-- two sums from 0 on
pub both_low : (boxes : Boxes) (m n : ℕ) (f g : Linear) → IsSum boxes (pos 0) (pos m) f → IsSum boxes (pos 0) (pos n) g → neg_ℤ (pos (2 ^ 50)) ≤ℤ (least_linear f boxes +ℤ least_linear g boxes)
both_low boxes m n f g left right = omega (arith, ints, left.lies.low_is, right.lies.low_is)

pub both_high : (boxes : Boxes) (m n all : ℕ) (f g : Linear) → m + n ≡ all → all ≤ 2 ^ 38 → IsSum boxes (pos 0) (pos m) f → IsSum boxes (pos 0) (pos n) g → (greatest_linear f boxes +ℤ greatest_linear g boxes) ≤ℤ pos (2 ^ 50)
both_high boxes m n all f g sum small left right = omega (arith, ints, sum, small, left.lies.high_is, right.lies.high_is)

pub both_sum : (boxes new : Boxes) (m n all : ℕ) (f g r : Linear) → m + n ≡ all → IsSum boxes (pos 0) (pos m) f → IsSum boxes (pos 0) (pos n) g → IsSum new (least_linear f boxes +ℤ least_linear g boxes) (greatest_linear f boxes +ℤ greatest_linear g boxes) r → IsSum new (pos 0) (pos all) r
both_sum boxes new m n all f g r sum left right whole =
    sum_wider new (least_linear f boxes +ℤ least_linear g boxes) (greatest_linear f boxes +ℤ greatest_linear g boxes) (pos 0) (pos all) r
    (omega (arith, ints, left.lies.low_is, right.lies.low_is)) (omega (arith, ints, sum, left.lies.high_is, right.lies.high_is)) whole
