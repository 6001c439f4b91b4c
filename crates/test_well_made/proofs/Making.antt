-- Terms, items and parts that are looked at one by one.
use Rattle.std.proofs.Common.{◌≡◌, ℕ, suc, ◌+◌, ◌-◌, ◌*◌, ◌<◌, ◌≤◌, ◌^◌, Bool, true, false, unsigned_abs, List, [], ◌∷◌, ℤ, pos, ◌≤ℤ◌, ◌<ℤ◌, All, length, get_or, drop, sym, subst, refl, ap, ◌∙◌, arith}
use Rattle.std.specs.Ordering.{int_eq}
use Rattle.std.proofs.lemmas.Int.{ints}
use Rattle.std.proofs.lemmas.Bool.{and_parts, false_from_ne_true}
use Rattle.std.proofs.lemmas.Bool.Decides.{Decides-int_eq}
use Rattle.std.proofs.lemmas.List.{drop_all}
use Rattle.std.proofs.lemmas.List.Elements.{All-cons}
use Rattle.signed_clause.specs.Clauses.{Boxes, box_of}
use Rattle.signed_clause.proofs.RangeSteps.{left_at}
use Rattle.ground_form.specs.Meaning.{part_vars}
use Rattle.ground_form.specs.Bounds.{low_of, high_of, reach_of, term_weight, size_sum, LiesWithin, IsPackBounded}
use Rattle.ground_form.specs.WellMade.{lacks_value, distinct_values}
use Rattle.test_well_made.specs.Numbered.{numbered}

-- ---- terms

pub weight_made : (t : ℤ × ℕ) (boxes : Boxes) (w : ℕ) → w ≡ unsigned_abs t.0 * reach_of (box_of boxes t.1) → w ≡ term_weight t boxes
unfolding term_weight
weight_made t boxes w e = e

-- ---- items

lacks_before : (v : ℤ) (k : ℕ) (ts : List (ℤ × ℕ)) → v <ℤ pos k → numbered k ts ≡ true → lacks_value v ts ≡ true
lacks_before v k [] h n = refl
lacks_before v k (t ∷ ts) h n =
    let parts = and_parts (int_eq t.0 (pos k)) (numbered (suc k) ts) n in
    let at = (Decides-int_eq t.0 (pos k)).0 parts.0 in
    let other : int_eq t.0 v ≡ false = false_from_ne_true (int_eq t.0 v) (λ q. let e = (Decides-int_eq t.0 v).0 q in absurd (omega (arith, ints))) in
    let more = lacks_before v (suc k) ts (omega (arith, ints)) parts.1 in
    rw other more

differ_from : (k : ℕ) (ts : List (ℤ × ℕ)) → numbered k ts ≡ true → distinct_values ts ≡ true
differ_from k [] n = refl
differ_from k (t ∷ ts) n =
    let parts = and_parts (int_eq t.0 (pos k)) (numbered (suc k) ts) n in
    let at = (Decides-int_eq t.0 (pos k)).0 parts.0 in
    let here = lacks_before t.0 (suc k) ts (omega (arith, ints)) parts.1 in
    let more = differ_from (suc k) ts parts.1 in rw here more

pub numbered_differ : (ts : List (ℤ × ℕ)) → numbered 0 ts ≡ true → distinct_values ts ≡ true
numbered_differ ts n = differ_from 0 ts n

pub all_numbered : (k : ℕ) (ts : List (ℤ × ℕ)) → length ts ≤ k → numbered k (drop k ts) ≡ numbered 0 ts → distinct_values ts ≡ true
all_numbered k ts h e = numbered_differ ts (sym e ∙ ap (λ (us : List (ℤ × ℕ)). numbered k us) (drop_all k ts h))

-- ---- parts and items to be packed

pub flags_step : (P : ℕ → Type 0) (ps : List (ℕ × Bool)) (i : ℕ) (p : ℕ × Bool) (d : ℕ × Bool) → i < length ps → p ≡ get_or ps i d → P p.0 → All P (part_vars (drop (i + 1) ps)) → All P (part_vars (drop i ps))
flags_step P ps i p d h e k more =
    subst (λ (us : List (ℕ × Bool)). All P (part_vars us)) (sym (left_at ps i p d h e)) (All-cons P p.0 (part_vars (drop (i + 1) ps)) k more)

pub items_step : (P : ℕ × ℕ × ℕ → Type 0) (is : List (ℕ × ℕ × ℕ)) (k : ℕ) (i : ℕ × ℕ × ℕ) (d : ℕ × ℕ × ℕ) → k < length is → i ≡ get_or is k d → P i → All P (drop (k + 1) is) → All P (drop k is)
items_step P is k i d h e p more =
    subst (λ (us : List (ℕ × ℕ × ℕ)). All P us) (sym (left_at is k i d h e)) (All-cons P i (drop (k + 1) is) p more)

pub sizes_step : (is : List (ℕ × ℕ × ℕ)) (boxes : Boxes) (k : ℕ) (i : ℕ × ℕ × ℕ) (d : ℕ × ℕ × ℕ) (left : ℕ) → k < length is → i ≡ get_or is k d → high_of (box_of boxes i.1) ≤ℤ pos 1048576 → 1048576 ≤ left → size_sum (drop (k + 1) is) boxes ≤ℤ pos (left - 1048576) → size_sum (drop k is) boxes ≤ℤ pos left
sizes_step is boxes k i d left h e p n more =
    subst (λ (us : List (ℕ × ℕ × ℕ)). size_sum us boxes ≤ℤ pos left) (sym (left_at is k i d h e)) (omega (arith, ints))

none_left : (P : ℕ × ℕ × ℕ → Type 0) (is : List (ℕ × ℕ × ℕ)) (k : ℕ) → length is ≤ k → All P (drop k is)
none_left P is k h = subst (λ (us : List (ℕ × ℕ × ℕ)). All P us) (sym (drop_all k is h)) (λ j d lt. absurd (omega arith))

pub bounded_items : (is : List (ℕ × ℕ × ℕ)) (boxes : Boxes) (k : ℕ) → length is ≤ k →
    (All (λ i. LiesWithin (pos 0) (pos 9999) (box_of boxes i.0)) (drop k is) → All (λ i. LiesWithin (pos 0) (pos 9999) (box_of boxes i.0)) is) →
    (All (λ i. pos 0 ≤ℤ low_of (box_of boxes i.1)) (drop k is) → All (λ i. pos 0 ≤ℤ low_of (box_of boxes i.1)) is) →
    (left : ℕ) → (size_sum (drop k is) boxes ≤ℤ pos left → size_sum is boxes ≤ℤ pos (2 ^ 60)) → IsPackBounded is boxes
bounded_items is boxes k h p s left t = record {
  places = p (none_left (λ i. LiesWithin (pos 0) (pos 9999) (box_of boxes i.0)) is k h);
  sizes = s (none_left (λ i. pos 0 ≤ℤ low_of (box_of boxes i.1)) is k h);
  total = t (subst (λ (us : List (ℕ × ℕ × ℕ)). size_sum us boxes ≤ℤ pos left) (sym (drop_all k is h)) (omega (arith, ints)));
}
