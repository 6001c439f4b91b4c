-- Sizes at bins, and how much they come to at most.
use Rattle.std.proofs.Common.{◌≡◌, ℕ, zero, suc, ◌+◌, ◌*◌, ◌≤◌, Bool, true, false, ◌||◌, cond, List, [], ◌∷◌, ℤ, pos, ◌+ℤ◌, ◌-ℤ◌, unsigned_abs, All, refl, ap, arith}
use Rattle.std.specs.Ordering.{int_eq}
use Rattle.std.proofs.lemmas.Int.{ints}
use Rattle.std.proofs.lemmas.List.Elements.{All-head, All-tail}
use Rattle.std.proofs.Math.Nat.{mul-suc, mul-add}
use Rattle.signed_clause.specs.Ranges.{Ranges, in_range, has, count_of}
use Rattle.ground_form.specs.Meaning.{value_of}
use Rattle.packing_sums.specs.Loads.{sizes_where, size_of}

-- ---- parts

share_split : (p q r : Bool) (k : ℕ) → (p ≡ true → (q || r) ≡ true) → cond p k 0 ≤ cond q k 0 + cond r k 0
share_split false q r k h = omega arith
share_split true true r k h = omega arith
share_split true false true k h = omega arith
share_split true false false k h = let e = h refl in absurd (grind (arith, e))

-- the bin of each item has one of these values
abbrev pub AreAt : Ranges → List (ℕ × ℕ) → List ℤ → Type 0
AreAt used ss a = All (λ s. has used (value_of a s.0) ≡ true) ss

-- where each bin that passes one test passes one of two others, the sizes of the one are at most
-- those of the two
pub split : (used : Ranges) (p q r : ℤ → Bool) (ss : List (ℕ × ℕ)) (a : List ℤ) → ((w : ℤ) → has used w ≡ true → p w ≡ true → (q w || r w) ≡ true) → AreAt used ss a → sizes_where p ss a ≤ sizes_where q ss a + sizes_where r ss a
split used p q r [] a h all = omega arith
split used p q r (s ∷ ss) a h all =
    let v = value_of a s.0 in
    let here = share_split (p v) (q v) (r v) s.1 (h v (All-head (λ t. has used (value_of a t.0) ≡ true) s ss all)) in
    let rest = split used p q r ss a h (All-tail (λ t. has used (value_of a t.0) ≡ true) s ss all) in
    omega (arith, here, rest)

-- what no bin passes has no size
pub none_there : (p : ℤ → Bool) (ss : List (ℕ × ℕ)) (a : List ℤ) → ((w : ℤ) → p w ≡ false) → sizes_where p ss a ≡ 0
none_there p [] a h = refl
none_there p (s ∷ ss) a h =
    let here = ap (λ (b : Bool). cond b s.1 0) (h (value_of a s.0)) in
    let rest = none_there p ss a h in
    omega (arith, here, rest)

-- and what each bin passes has all sizes
pub all_there : (p : ℤ → Bool) (ss : List (ℕ × ℕ)) (a : List ℤ) → All (λ s. p (value_of a s.0) ≡ true) ss → sizes_where p ss a ≡ size_of ss
all_there p [] a h = refl
all_there p (s ∷ ss) a h =
    let here = ap (λ (b : Bool). cond b s.1 0) (All-head (λ t. p (value_of a t.0) ≡ true) s ss h) in
    let rest = all_there p ss a (All-tail (λ t. p (value_of a t.0) ≡ true) s ss h) in
    omega (arith, here, rest)

-- ---- how much a set of bins has room for

first_bin : (lo w : ℤ) → in_range (lo, lo +ℤ pos 0) w ≡ true → (int_eq w lo || false) ≡ true
first_bin lo w e = grind (arith, ints)

next_bin : (lo w : ℤ) (n : ℕ) → in_range (lo, lo +ℤ pos (suc n)) w ≡ true → (in_range (lo, lo +ℤ pos n) w || int_eq w (lo +ℤ pos (suc n))) ≡ true
next_bin lo w n e = grind (arith, ints)

wider : (lo hi w : ℤ) → in_range (lo, hi) w ≡ true → (in_range (lo, lo +ℤ pos (unsigned_abs (hi -ℤ lo))) w || false) ≡ true
wider lo hi w e = grind (arith, ints)

-- no bin has more than the room
abbrev pub AreWithin : ℕ → List (ℕ × ℕ) → List ℤ → Type 0
AreWithin room ss a = (v : ℤ) → sizes_where (λ w. int_eq w v) ss a ≤ room

span_room : (used : Ranges) (lo : ℤ) (n room : ℕ) (ss : List (ℕ × ℕ)) (a : List ℤ) → AreAt used ss a → AreWithin room ss a → sizes_where (in_range (lo, lo +ℤ pos n)) ss a ≤ room * suc n
span_room used lo zero room ss a all h =
    let parts = split used (in_range (lo, lo +ℤ pos 0)) (λ w. int_eq w lo) (λ w. false) ss a (λ w u e. first_bin lo w e) all in
    let none = none_there (λ w. false) ss a (λ w. refl) in
    let there = h lo in
    omega (arith, parts, none, there)
span_room used lo (suc n) room ss a all h =
    let parts = split used (in_range (lo, lo +ℤ pos (suc n))) (in_range (lo, lo +ℤ pos n)) (λ w. int_eq w (lo +ℤ pos (suc n))) ss a (λ w u e. next_bin lo w n e) all in
    let rest = span_room used lo n room ss a all h in
    let there = h (lo +ℤ pos (suc n)) in
    let product = mul-suc room (suc n) in
    omega (arith, parts, rest, there, product)

range_room : (used : Ranges) (r : ℤ × ℤ) (room : ℕ) (ss : List (ℕ × ℕ)) (a : List ℤ) → AreAt used ss a → AreWithin room ss a → sizes_where (in_range r) ss a ≤ room * suc (unsigned_abs (r.1 -ℤ r.0))
range_room used r room ss a all h =
    let n = unsigned_abs (r.1 -ℤ r.0) in
    let parts = split used (in_range r) (in_range (r.0, r.0 +ℤ pos n)) (λ w. false) ss a (λ w u e. wider r.0 r.1 w e) all in
    let none = none_there (λ w. false) ss a (λ w. refl) in
    let span = span_room used r.0 n room ss a all h in
    omega (arith, parts, none, span)

-- the bins of a set have room for as many rooms as it has values
pub set_room : (used : Ranges) (rs : Ranges) (room : ℕ) (ss : List (ℕ × ℕ)) (a : List ℤ) → AreAt used ss a → AreWithin room ss a → sizes_where (has rs) ss a ≤ room * count_of rs
set_room used [] room ss a all h = let none = none_there (has []) ss a (λ w. refl) in omega (arith, none)
set_room used (r ∷ rs) room ss a all h =
    let parts = split used (has (r ∷ rs)) (in_range r) (has rs) ss a (λ w u e. e) all in
    let first = range_room used r room ss a all h in
    let rest = set_room used rs room ss a all h in
    let product = mul-add room (suc (unsigned_abs (r.1 -ℤ r.0))) (count_of rs) in
    omega (arith, parts, first, rest, product)
