-- Lists of numbers: which stand in one, and that none stands twice.
use Rattle.std.proofs.Common.{◌≡◌, ℕ, suc, zero, ◌<◌, ◌==◌, true, false, List, [], ◌∷◌, All, length, get_or, arith, refl}
use Rattle.std.specs.List.{Contains, AllPairs}
use Rattle.std.specs.List.Sorted.{IsStrictlyIncreasing}
use Rattle.std.proofs.lemmas.List.Kept.{AllPairs-from_increasing}
use Rattle.rule_law.specs.Reasons.{has_number, no_repeat}
use Rattle.box_view.proofs.SetLaws.{bool_same}

pub number_at : (x : ℕ) (xs : List ℕ) (k d : ℕ) → k < length xs → get_or xs k d ≡ x → has_number x xs ≡ true
number_at x [] k d h e = absurd (omega arith)
number_at x (y ∷ xs) zero d h e = grind arith
number_at x (y ∷ xs) (suc k) d h e = let more = number_at x xs k d (omega arith) e in grind arith

-- where it stands
pub number_found : (x : ℕ) (xs : List ℕ) → has_number x xs ≡ true → Contains xs x
number_found x [] h = absurd (grind arith)
number_found x (y ∷ xs) h =
    elim (y == x) as (λ b. (y == x) ≡ b → Contains (y ∷ xs) x) [
      | true ↦ λ e. (0, omega arith, grind arith)
      | false ↦ λ e. let more = number_found x xs (grind arith) in (suc more.0, let lt = more.1 in omega arith, more.2)
    ] refl

number_of : (x : ℕ) (xs : List ℕ) → Contains xs x → has_number x xs ≡ true
number_of x xs c = number_at x xs c.0 x c.1 c.2

pub same_numbers : (x : ℕ) (xs ys : List ℕ) → (Contains xs x → Contains ys x) → (Contains ys x → Contains xs x) → has_number x xs ≡ has_number x ys
same_numbers x xs ys f g =
    bool_same (has_number x xs) (has_number x ys) (λ h. number_of x ys (f (number_found x xs h))) (λ h. number_of x xs (g (number_found x ys h)))

no_number : (x : ℕ) (xs : List ℕ) → ((k d : ℕ) → k < length xs → x < get_or xs k d) → has_number x xs ≡ false
no_number x [] h = refl
no_number x (y ∷ xs) h = let first = h 0 0 (omega arith) in let more = no_number x xs (λ k d lt. h (suc k) d (omega arith)) in grind arith

pairs_differ : (xs : List ℕ) → AllPairs (λ x y. x < y) xs → no_repeat xs ≡ true
pairs_differ [] h = refl
pairs_differ (x ∷ xs) h =
    let none = no_number x xs (λ k d lt. h 0 (suc k) d (omega arith) (omega arith)) in
    let more = pairs_differ xs (λ i j d less lt. h (suc i) (suc j) d (omega arith) (omega arith)) in grind arith

-- numbers that rise differ
pub rising_differ : (xs : List ℕ) → IsStrictlyIncreasing xs → no_repeat xs ≡ true
rising_differ xs h = pairs_differ xs (AllPairs-from_increasing xs h)

pub number_below : (x : ℕ) (xs : List ℕ) → has_number x xs ≡ true → (n : ℕ) → All (λ y. y < n) xs → x < n
number_below x xs h n a = let c = number_found x xs h in let lt = a c.0 x c.1 in let is = c.2 in grind arith
