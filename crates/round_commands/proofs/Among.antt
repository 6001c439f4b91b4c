-- Whether a search among ascending numbers finds one.
use Rattle.std.proofs.Common.{◌≡◌, ◌<◌, ◌≤◌, ◌⊎◌, inl, inr, ◌∙◌, ℕ, List, Bool, true, false, Result, Ok, Err, AllPairs, length, get_or, nat_eq, nat_lt, refl, sym, subst, arith}
use Rattle.std.specs.Cmp.{nat_eq_equiv}
use Rattle.std.specs.List.{list_any}
use Rattle.std.specs.Ordering.{nat_cmp}
use Rattle.std.specs.Result.{is_ok}
use Rattle.std.specs.List.Sorted.{IsBinarySearchResult}
use Rattle.std.proofs.lemmas.Bool.Decides.{nat_tests}
use Rattle.std.proofs.lemmas.List.{get_or_default}
use Rattle.std.proofs.lemmas.List.Sorted.{searched}
use Rattle.std.proofs.lemmas.Map.Views.{Contains-from_any, list_any-from_Contains}

less_or_same : (b : Bool) (i j : ℕ) → nat_lt i j ≡ b → i ≤ j → (i < j) ⊎ (i ≡ j)
less_or_same true i j e h = inl (grind (arith, nat_tests))
less_or_same false i j e h = inr (grind (arith, nat_tests))

at_most : (xs : List ℕ) (i j : ℕ) → (i < j) ⊎ (i ≡ j) → AllPairs ◌<◌ xs → j < length xs → get_or xs i 0 ≤ get_or xs j 0
at_most xs i j (inl less) rise lt =
    let h = rise i j 0 less lt in
    omega (arith, h)
at_most xs i j (inr same) rise lt = subst (λ k. get_or xs k 0 ≤ get_or xs j 0) (sym same) (omega arith)

rising : (xs : List ℕ) → AllPairs ◌<◌ xs → (i j : ℕ) → i ≤ j → j < length xs → get_or xs i 0 ≤ get_or xs j 0
rising xs rise i j le lt = at_most xs i j (less_or_same (nat_lt i j) i j refl le) rise lt

same_number : (x y : ℕ) → nat_eq x y ≡ true → x ≡ y
same_number x y e = grind (arith, nat_tests)

-- what would have to stand between two neighbours isn't there
between : (b : Bool) (xs : List ℕ) (x i k : ℕ) → nat_lt k i ≡ b → ((k : ℕ) → k < i → get_or xs k 0 < x) → ((k : ℕ) → i ≤ k → k < length xs → x < get_or xs k 0) → k < length xs → get_or xs k 0 ≡ x → ⊥
between true xs x i k e below above lt at =
    let less = below k (grind (arith, nat_tests)) in
    omega (arith, less, at)
between false xs x i k e below above lt at =
    let more = above k (grind (arith, nat_tests)) lt in
    omega (arith, more, at)

absent : (b : Bool) (xs : List ℕ) (x i : ℕ) → ((k : ℕ) → k < i → get_or xs k 0 < x) → ((k : ℕ) → i ≤ k → k < length xs → x < get_or xs k 0) → list_any (nat_eq x) xs ≡ b → false ≡ b
absent false xs x i below above e = refl
absent true xs x i below above e =
    let there = Contains-from_any same_number x xs e in
    absurd (between (nat_lt there.0 i) xs x i there.0 refl below above there.1 (get_or_default xs there.0 0 x there.1 ∙ there.2))

pub found : (xs : List ℕ) (x : ℕ) (r : Result ℕ ℕ) → AllPairs ◌<◌ xs → IsBinarySearchResult (λ y. nat_cmp y x) xs r → is_ok r ≡ list_any (nat_eq x) xs
found xs x (Ok i) rise h =
    let at = searched xs x (Ok i) h (rising xs rise) in
    sym (list_any-from_Contains nat_eq_equiv x xs (i, at.0, get_or_default xs i x 0 at.0 ∙ at.1))
found xs x (Err i) rise h =
    let at = searched xs x (Err i) h (rising xs rise) in
    absent (list_any (nat_eq x) xs) xs x i at.1 at.2 refl
