-- Lists of values and of objects, as sets have them.
use Rattle.std.proofs.Common.{◌≡◌, ℕ, Bool, ◌||◌, List, [], ◌∷◌, ℤ, pos, map, take, drop, length, ◌≤◌, ◌-◌, refl, sym, ap, ◌∙◌, arith, nat_eq, length-drop}
use Rattle.std.proofs.lemmas.List.{take_all, take-append-drop}
use Rattle.std.specs.List.{list_any}
use Rattle.std.specs.Ordering.{int_eq}
use Rattle.std.proofs.lemmas.Int.{ints}
use Rattle.std.proofs.lemmas.Bool.Decides.{nat_tests}
use Rattle.std.proofs.lemmas.List.Folds.{list_any-append}

-- one of the values is v
abbrev pub is_among : List ℤ → ℤ → Bool
is_among vs v = list_any (λ w. int_eq w v) vs

pub number_test : (m n : ℕ) → int_eq (pos m) (pos n) ≡ nat_eq n m
number_test m n = grind (arith, ints, nat_tests)

pub any_number : (n : ℕ) (xs : List ℕ) → is_among (map pos xs) (pos n) ≡ list_any (nat_eq n) xs
any_number n [] = refl
any_number n (x ∷ xs) =
    ap (λ (b : Bool). b || is_among (map pos xs) (pos n)) (number_test x n) ∙ ap (λ (b : Bool). nat_eq n x || b) (any_number n xs)

-- of two sets that have the values of two parts, their join has those of the whole
pub halves : (h : ℕ) (vs : List ℤ) (v : ℤ) (front back all : Bool) → h ≤ length vs → front ≡ is_among (take h vs) v → back ≡ is_among (take (length vs - h) (drop h vs)) v → all ≡ (front || back) → all ≡ is_among vs v
halves h vs v front back all le f b a =
    a ∙ ap (λ (c : Bool). c || back) f ∙ ap (λ (c : Bool). is_among (take h vs) v || c) b
    ∙ ap (λ (z : List ℤ). is_among (take h vs) v || is_among z v) (take_all (length vs - h) (drop h vs) (omega (arith, length-drop h vs)))
    ∙ sym (list_any-append (λ w. int_eq w v) (take h vs) (drop h vs))
    ∙ ap (λ (z : List ℤ). is_among z v) (take-append-drop h vs)
