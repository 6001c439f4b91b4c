-- What some constraints of a model, in order, keep of its limits.
use Rattle.std.proofs.Common.{◌≡◌, ℕ, zero, suc, ◌+◌, ◌<◌, ◌≤◌, Bool, true, List, [], ◌∷◌, refl, sym, ◌∙◌, ap, subst, arith, length, map, drop, All}
use Rattle.std.specs.Prelude.{slice_index_or, AllPairs}
use Rattle.std.specs.List.{list_all, sum_by}
use Rattle.std.proofs.lemmas.Bool.{and_from, and_parts}
use Rattle.std.proofs.lemmas.List.Sums.{sum_by-cons}
use Rattle.std.proofs.lemmas.List.Elements.{All-head, All-tail}
use Rattle.class_table.specs.Outline.{Outline}
use Rattle.conf_types.specs.Programs.{ResolvedConstraint, ResolvedGoal, constraint_at}
use Rattle.conf_limits.specs.Limits.{IsWithinMeasures}
use Rattle.conf_limits.specs.Measures.{constraint_weight, constraint_narrow, goal_narrow}

-- the first number is at least `from`, and each further one is greater than the one before
abbrev Ascends : ℕ → List ℕ → Type 0
Ascends from [] = Unit {0}
Ascends from (k ∷ ks) = (from ≤ k) × Ascends (k + 1) ks

later : (k : ℕ) (ks : List ℕ) → AllPairs ◌<◌ (k ∷ ks) → AllPairs ◌<◌ ks
later k ks h = λ i j d before there. h (suc i) (suc j) d (omega (arith, before)) (omega (arith, there))

next_greater : (k m : ℕ) (ms : List ℕ) → AllPairs ◌<◌ (k ∷ m ∷ ms) → k < m
next_greater k m ms h = h 0 1 0 (omega arith) (omega arith)

ascends_from : (k : ℕ) (ks : List ℕ) → AllPairs ◌<◌ (k ∷ ks) → Ascends (k + 1) ks
ascends_from k [] h = tt
ascends_from k (m ∷ ms) h = let less = next_greater k m ms h in (omega (arith, less), ascends_from m ms (later k (m ∷ ms) h))

ascends : (ks : List ℕ) → AllPairs ◌<◌ ks → Ascends 0 ks
ascends [] h = tt
ascends (k ∷ ks) h = (omega arith, ascends_from k ks h)

module _ {X : Type 0} (f : X → ℕ) (d : X) where
  sum_at : (xs : List X) (k : ℕ) → k < length xs → f (slice_index_or xs k d) + sum_by f (drop (k + 1) xs) ≡ sum_by f (drop k xs)
  sum_at [] k h = absurd (omega (arith, h))
  sum_at (x ∷ xs) zero h = sym (sum_by-cons f x xs)
  sum_at (x ∷ xs) (suc k) h =
      let more : suc (k + 1) ≡ suc k + 1 = omega arith in
      ap (λ n. f (slice_index_or xs k d) + sum_by f (drop n (x ∷ xs))) (sym more) ∙ sum_at xs k (omega (arith, h))

  sum_drop : (xs : List X) (i k : ℕ) → i ≤ k → sum_by f (drop k xs) ≤ sum_by f (drop i xs)
  sum_drop [] zero zero h = omega arith
  sum_drop [] zero (suc k) h = omega arith
  sum_drop [] (suc i) zero h = omega arith
  sum_drop [] (suc i) (suc k) h = omega arith
  sum_drop (x ∷ xs) zero zero h = omega arith
  sum_drop (x ∷ xs) zero (suc k) h = let rest = sum_drop xs 0 k (omega arith) in omega (arith, rest, sum_by-cons f x xs)
  sum_drop (x ∷ xs) (suc i) zero h = absurd (omega (arith, h))
  sum_drop (x ∷ xs) (suc i) (suc k) h = sum_drop xs i k (omega (arith, h))

  sum_from : (xs : List X) (i : ℕ) (ks : List ℕ) → Ascends i ks → All (λ k. k < length xs) ks → sum_by f (map (λ k. slice_index_or xs k d) ks) ≤ sum_by f (drop i xs)
  sum_from xs i [] h all = omega arith
  sum_from xs i (k ∷ ks) h all =
      let here = sum_at xs k (All-head (λ (n : ℕ). n < length xs) k ks all) in
      let rest = sum_from xs (k + 1) ks h.1 (All-tail (λ (n : ℕ). n < length xs) k ks all) in
      let less = sum_drop xs i k h.0 in
      let all_of = sum_by-cons f (slice_index_or xs k d) (map (λ (n : ℕ). slice_index_or xs n d) ks) in
      omega (arith, here, rest, less, all_of)

  drop_none : (xs : List X) → drop 0 xs ≡ xs
  drop_none [] = refl
  drop_none (x ∷ xs) = refl

  pub part_sum : (xs : List X) (ks : List ℕ) → AllPairs ◌<◌ ks → All (λ k. k < length xs) ks → sum_by f (map (λ k. slice_index_or xs k d) ks) ≤ sum_by f xs
  part_sum xs ks h all = let whole = sum_from xs 0 ks (ascends ks h) all in subst (λ (ys : List X). sum_by f (map (λ k. slice_index_or xs k d) ks) ≤ sum_by f ys) (drop_none xs) whole

module _ {X : Type 0} (p : X → Bool) (d : X) where
  passes_at : (xs : List X) (k : ℕ) → list_all p xs ≡ true → k < length xs → p (slice_index_or xs k d) ≡ true
  passes_at [] k all h = absurd (omega (arith, h))
  passes_at (x ∷ xs) zero all h = (and_parts (p x) (list_all p xs) all).0
  passes_at (x ∷ xs) (suc k) all h = passes_at xs k (and_parts (p x) (list_all p xs) all).1 (omega (arith, h))

  pub part_passes : (xs : List X) (ks : List ℕ) → list_all p xs ≡ true → All (λ k. k < length xs) ks → list_all p (map (λ k. slice_index_or xs k d) ks) ≡ true
  part_passes xs [] all there = refl
  part_passes xs (k ∷ ks) all there =
      and_from (p (slice_index_or xs k d)) (list_all p (map (λ n. slice_index_or xs n d) ks)) (passes_at xs k all (All-head (λ (n : ℕ). n < length xs) k ks there)) (part_passes xs ks all (All-tail (λ (n : ℕ). n < length xs) k ks there))

abbrev none : ResolvedConstraint
none = constraint_at [] 0

-- constraints of a model that is within the limits, in order, are within them, with no objective
pub part_within : (o : Outline) (ks : List ResolvedConstraint) (gs : List ResolvedGoal) (keep : List ℕ) → AllPairs ◌<◌ keep → All (λ k. k < length ks) keep → IsWithinMeasures o ks gs → IsWithinMeasures o (map (constraint_at ks) keep) []
part_within o ks gs keep ascend there w =
    let sum = part_sum (constraint_weight o) none ks keep ascend there in
    let all = (and_parts (list_all (constraint_narrow o) ks) (list_all (goal_narrow o) gs) w.narrow).0 in
    record {
      weight = (let whole = w.weight in omega (arith, sum, whole));
      narrow = and_from (list_all (constraint_narrow o) (map (constraint_at ks) keep)) true (part_passes (constraint_narrow o) none ks keep all there) refl;
    }
