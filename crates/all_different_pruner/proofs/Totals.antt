-- What one more in a slot does to the sums, and what one more box does to the counts.
use Rattle.std.proofs.Common.{◌≡◌, ℕ, zero, suc, ◌+◌, ◌<◌, ◌≤◌, Bool, true, false, cond, List, [], ◌∷◌, ℤ, length, drop, get_or, slice_set, take, ◌++◌, refl, arith, subst, sym, ap, ◌∙◌}
use Rattle.std.specs.Prelude.{nat_le, slice_index_or}
use Rattle.std.proofs.Math.ListN.{replicate}
use Rattle.std.proofs.lemmas.Bool.Decides.{nat_tests}
use Rattle.signed_clause.specs.Clauses.{Boxes, box_of}
use Rattle.signed_clause.proofs.RangeSteps.{left_at}
use Rattle.rule_law.specs.Reasons.{has_number}
use Rattle.all_different_pruner.specs.Intervals.{is_outside, AreOutside}
use Rattle.all_different_pruner.specs.Counters.{total, count_begun}
use Rattle.all_different_pruner.proofs.Fixpoint.{stands_at}

pub total_step : (d : ℕ) (ns : List ℕ) → d < length ns → total d ns + slice_index_or ns d 0 ≡ total (suc d) ns
total_step d [] h = absurd (omega arith)
total_step zero (m ∷ ns) h = omega arith
total_step (suc d) (m ∷ ns) h = let more = total_step d ns (omega arith) in omega arith

pub slot_le : (d : ℕ) (ns : List ℕ) → d < length ns → slice_index_or ns d 0 ≤ total (suc d) ns
slot_le d ns h = let e = total_step d ns h in omega arith

pub total_set : (e d : ℕ) (ns : List ℕ) → d < length ns → total (suc e) (slice_set ns d (slice_index_or ns d 0 + 1)) ≡ cond (nat_le d e) (suc (total (suc e) ns)) (total (suc e) ns)
total_set e d [] h = absurd (omega arith)
total_set e zero (m ∷ ns) h = let t : nat_le 0 e ≡ true = grind (arith, nat_tests) in rw t (omega arith)
total_set zero (suc d) (m ∷ ns) h = let t : nat_le (suc d) 0 ≡ false = grind (arith, nat_tests) in rw t (omega arith)
total_set (suc e) (suc d) (m ∷ ns) h =
    let more = total_set e d ns (omega arith) in
    let later : nat_le (suc d) (suc e) ≡ nat_le d e = grind (arith, nat_tests) in
    let P : Bool → Type 0 = λ t. total (suc e) (slice_set ns d (slice_index_or ns d 0 + 1)) ≡ cond t (suc (total (suc e) ns)) (total (suc e) ns) →
    m + total (suc e) (slice_set ns d (slice_index_or ns d 0 + 1)) ≡ cond t (suc (m + total (suc e) ns)) (m + total (suc e) ns) in
    rw later ((elim (nat_le d e) as P [ true ↦ λ q. omega arith | false ↦ λ q. omega arith ]) more)

none_total : (e n : ℕ) → total e (replicate n 0) ≡ 0
none_total zero n = refl
none_total (suc e) zero = refl
none_total (suc e) (suc n) = let more = none_total e n in omega arith

nothing : (n m : ℕ) → ◌++◌ {A = ℕ} (take n []) (replicate m 0) ≡ replicate m 0
nothing zero m = refl
nothing (suc n) m = refl

pub total_none : (e n m : ℕ) (old new : List ℕ) → old ≡ [] → new ≡ take n old ++ replicate m 0 → total e new ≡ 0
total_none e n m old new h k = ap (λ (z : List ℕ). total e z) (k ∙ ap (λ (z : List ℕ). take n z ++ replicate m 0) h ∙ nothing n m) ∙ none_total e m

pub begun_at_most : (a b : ℤ) (xs : List ℕ) (boxes : Boxes) → count_begun a b xs boxes ≤ length xs
begun_at_most a b [] boxes = omega arith
begun_at_most a b (x ∷ xs) boxes = let more = begun_at_most a b xs boxes in grind arith

-- one variable more is looked at
pub stands_get : (k : ℕ) (xs : List ℕ) → k < length xs → has_number (get_or xs k 0) xs ≡ true
stands_get k [] h = absurd (omega arith)
stands_get zero (x ∷ xs) h = stands_at x xs
stands_get (suc k) (x ∷ xs) h = let more = stands_get k xs (omega arith) in grind arith

outside_cons : (a b : ℤ) (x : ℕ) (xs : List ℕ) (boxes : Boxes) → is_outside a b (box_of boxes x) ≡ true → AreOutside a b xs boxes → AreOutside a b (x ∷ xs) boxes
outside_cons a b x xs boxes here rest zero d lt = here
outside_cons a b x xs boxes here rest (suc j) d lt = rest j d (omega arith)

pub outside_step : (a b : ℤ) (xs : List ℕ) (boxes : Boxes) (k x : ℕ) → k < length xs → x ≡ get_or xs k 0 → is_outside a b (box_of boxes x) ≡ true → AreOutside a b (drop (k + 1) xs) boxes → AreOutside a b (drop k xs) boxes
outside_step a b xs boxes k x h e here rest =
    subst (λ (z : List ℕ). AreOutside a b z boxes) (sym (left_at xs k x 0 h e)) (outside_cons a b x (drop (k + 1) xs) boxes here rest)
