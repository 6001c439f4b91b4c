-- What loops over items and bins do in one step.
use Rattle.std.proofs.Common.{◌≡◌, ℕ, zero, suc, ◌+◌, ◌<◌, Bool, true, false, not, ◌&&◌, cond, List, [], ◌∷◌, ℤ, pos, ◌+ℤ◌, ◌-ℤ◌, ◌≤ℤ◌, ◌<ℤ◌, All, inl, inr, ◌⊎◌, length, drop, get_or, refl, arith, subst, ap}
use Rattle.std.specs.Prelude.{int_lt}
use Rattle.std.specs.Int.{int_max, int_min}
use Rattle.std.proofs.lemmas.Int.{ints}
use Rattle.std.proofs.lemmas.Bool.{and_parts, and_from, false_from_ne_true}
use Rattle.std.specs.Ordering.{int_eq}
use Rattle.std.proofs.lemmas.Bool.Decides.{Decides-int_eq}
use Rattle.signed_clause.specs.Ranges.{Ranges, has, is_nil, IsValid}
use Rattle.signed_clause.specs.Clauses.{Boxes, box_of}
use Rattle.signed_clause.proofs.RangeSteps.{left_at}
use Rattle.ground_form.specs.Bounds.{low_of, high_of}
use Rattle.ground_form.specs.Meaning.{item_vars}
use Rattle.box_rules.specs.Refuted.{fixed_at, fixed_load, first_bin, last_bin}
use Rattle.box_view.proofs.EndLaws.{AreSets, are_sets, above_low, below_high}
use Rattle.box_view.proofs.EndLaws.{has_low}
use Rattle.box_rules.proofs.PackLaws.{first_bin-le, last_bin-ge}
use Rattle.pack_fit.specs.Packing.{AllFit, tight_room, fits, all_fit, two_rooms, seconds_from, growth}

pub tight_upto : (v : ℤ) (is : List (ℕ × ℕ × ℕ)) (boxes : Boxes) → tight_room v is boxes ≤ℤ pos 9223372036854775807
tight_upto v [] boxes = omega (arith, ints)
tight_upto v (i ∷ is) boxes = let more = tight_upto v is boxes in grind (arith, ints)

taken : (f : Bool) (room rest tight next total : ℤ) → next ≡ cond f (int_min tight room) tight → int_min tight (cond f (int_min room rest) rest) ≡ total → int_min next rest ≡ total
taken true room rest tight next total e h = grind (arith, ints)
taken false room rest tight next total e h = grind (arith, ints)

pub tight_step : (v : ℤ) (is : List (ℕ × ℕ × ℕ)) (boxes : Boxes) (k : ℕ) (i : ℕ × ℕ × ℕ) (tight next total : ℤ) → k < length is → i ≡ get_or is k (0, 0, 0) →
    next ≡ cond (fixed_at (box_of boxes i.0) v) (int_min tight (high_of (box_of boxes i.2))) tight → int_min tight (tight_room v (drop k is) boxes) ≡ total → int_min next (tight_room v (drop (k + 1) is) boxes) ≡ total
tight_step v is boxes k i tight next total h d e t =
    let left : tight_room v (drop k is) boxes ≡ tight_room v (i ∷ drop (k + 1) is) boxes = ap (λ (z : List (ℕ × ℕ × ℕ)). tight_room v z boxes) (left_at is k i (0, 0, 0) h d) in
    taken (fixed_at (box_of boxes i.0) v) (high_of (box_of boxes i.2)) (tight_room v (drop (k + 1) is) boxes) tight next total e (rw left at t)

pub tight_high : (f : Bool) (room tight next : ℤ) → next ≡ cond f (int_min tight room) tight → tight ≤ℤ pos 9223372036854775807 → next ≤ℤ pos 9223372036854775807
tight_high true room tight next e h = grind (arith, ints)
tight_high false room tight next e h = omega (arith, ints)

-- ---- values one by one

pub upto_next : (P : ℤ → Type 0) (first at next : ℤ) → next ≡ at +ℤ pos 1 → ((v : ℤ) → first ≤ℤ v → v <ℤ at → P v) → P at → (v : ℤ) → first ≤ℤ v → v <ℤ next → P v
upto_next P first at next e h k v l m =
    (elim (int_lt v at) as (λ t. int_lt v at ≡ t → P v) [
      | true ↦ λ q. h v l (grind (arith, ints))
      | false ↦ λ q. let same : at ≡ v = grind (arith, ints) in subst P same k
    ]) refl

-- ---- rooms

pub seconds_next : (n : ℕ) (v : ℤ) (items : List (ℕ × ℕ × ℕ)) (boxes : Boxes) → seconds_from (suc n) v items boxes ≡ seconds_from n v items boxes +ℤ (two_rooms (v +ℤ pos n) items boxes).1
seconds_next zero v items boxes =
    let e : v +ℤ pos 0 ≡ v = omega (arith, ints) in rw e (omega (arith, ints))
seconds_next (suc n) v items boxes =
    let more = seconds_next n (v +ℤ pos 1) items boxes in
    let e : (v +ℤ pos 1) +ℤ pos n ≡ v +ℤ pos (suc n) = omega (arith, ints) in
    let m = rw e at more in omega (arith, ints)

-- ---- outside the bins

out_absurd : (v low high : ℤ) → low ≤ℤ v → v ≤ℤ high → (v <ℤ low ⊎ high <ℤ v) → ⊥
out_absurd v low high h k o = elim o [ inl l ↦ omega (arith, ints) | inr m ↦ omega (arith, ints) ]

pub fixed_has : (s : Ranges) (v : ℤ) → IsValid s → fixed_at s v ≡ true → has s v ≡ true
fixed_has s v f h =
    let a = and_parts (not (is_nil s)) (int_eq (low_of s) v && int_eq (high_of s) v) h in
    let b = and_parts (int_eq (low_of s) v) (int_eq (high_of s) v) a.1 in
    let low = (Decides-int_eq (low_of s) v).0 b.0 in
    let some : is_nil s ≡ false = let n = a.0 in grind arith in
    subst (λ (z : ℤ). has s z ≡ true) low (has_low s f some)

out_fits : (v load tight : ℤ) (i : ℕ × ℕ × ℕ) (boxes : Boxes) → AreSets boxes → is_nil (box_of boxes i.0) ≡ false → (v <ℤ low_of (box_of boxes i.0) ⊎ high_of (box_of boxes i.0) <ℤ v) → fits v load tight i boxes ≡ true
out_fits v load tight i boxes s n o =
    let out : has (box_of boxes i.0) v ≡ false = false_from_ne_true (has (box_of boxes i.0) v) (λ q.
    let low = above_low (box_of boxes i.0) v (s i.0) q in let high = below_high (box_of boxes i.0) v (s i.0) q in out_absurd v (low_of (box_of boxes i.0)) (high_of (box_of boxes i.0)) low high o) in
    let not_fixed : fixed_at (box_of boxes i.0) v ≡ false = false_from_ne_true (fixed_at (box_of boxes i.0) v) (λ q.
    let there = fixed_has (box_of boxes i.0) v (s i.0) q in absurd cc) in
    rw (not_fixed, out) refl

pub fit_outside : (v : ℤ) (a b : ℤ) (is items : List (ℕ × ℕ × ℕ)) (boxes : Boxes) → AreSets boxes → All (λ x. is_nil (box_of boxes x) ≡ false) (item_vars is) → (v <ℤ first_bin a is boxes ⊎ last_bin b is boxes <ℤ v) → all_fit v is items boxes ≡ true
fit_outside v a b [] items boxes s n o = refl
fit_outside v a b (i ∷ is) items boxes s n o =
    let first = first_bin-le (int_min a (low_of (box_of boxes i.0))) is boxes in
    let last = last_bin-ge (int_max b (high_of (box_of boxes i.0))) is boxes in
    let here = out_fits v (fixed_load v items boxes) (tight_room v items boxes) i boxes s (n 0 0 (omega arith))
    (elim o [ inl l ↦ inl (grind (arith, ints)) | inr m ↦ inr (grind (arith, ints)) ]) in
    let more = fit_outside v (int_min a (low_of (box_of boxes i.0))) (int_max b (high_of (box_of boxes i.0))) is items boxes s (λ k d lt. n (suc (suc (suc k))) d (omega arith)) o in
    and_from _ _ here more

pub fit_everywhere : (head : ℕ × ℕ × ℕ) (items : List (ℕ × ℕ × ℕ)) (boxes : Boxes) (first last : ℤ) → All (λ s. IsValid s) boxes → All (λ x. is_nil (box_of boxes x) ≡ false) (item_vars items) →
    first ≡ first_bin (low_of (box_of boxes head.0)) items boxes → last ≡ last_bin (high_of (box_of boxes head.0)) items boxes → ((v : ℤ) → first ≤ℤ v → v ≤ℤ last → all_fit v items items boxes ≡ true) → AllFit items boxes
fit_everywhere head items boxes first last s n e f h v =
    let a = low_of (box_of boxes head.0) in let b = high_of (box_of boxes head.0) in let sets = are_sets boxes s in
    (elim (int_lt v first) as (λ t. int_lt v first ≡ t → all_fit v items items boxes ≡ true) [
      | true ↦ λ q. fit_outside v a b items items boxes sets n (inl (let l : v <ℤ first = grind (arith, ints) in omega (arith, ints)))
      | false ↦ λ q. (elim (int_lt last v) as (λ t. int_lt last v ≡ t → all_fit v items items boxes ≡ true) [
        | true ↦ λ r. fit_outside v a b items items boxes sets n (inr (let l : last <ℤ v = grind (arith, ints) in omega (arith, ints)))
        | false ↦ λ r. h v (grind (arith, ints)) (grind (arith, ints))
      ]) refl
    ]) refl

grown : (more rest most next total : ℤ) → next ≡ int_max most more → int_max most (int_max more rest) ≡ total → int_max next rest ≡ total
grown more rest most next total e h = grind (arith, ints)

pub growth_step : (is : List (ℕ × ℕ × ℕ)) (boxes : Boxes) (k : ℕ) (i : ℕ × ℕ × ℕ) (most next total : ℤ) → k < length is → i ≡ get_or is k (0, 0, 0) →
    next ≡ int_max most (high_of (box_of boxes i.1) -ℤ low_of (box_of boxes i.1)) → int_max most (growth (drop k is) boxes) ≡ total → int_max next (growth (drop (k + 1) is) boxes) ≡ total
growth_step is boxes k i most next total h d e t =
    let left : growth (drop k is) boxes ≡ growth (i ∷ drop (k + 1) is) boxes = ap (λ (z : List (ℕ × ℕ × ℕ)). growth z boxes) (left_at is k i (0, 0, 0) h d) in
    grown (high_of (box_of boxes i.1) -ℤ low_of (box_of boxes i.1)) (growth (drop (k + 1) is) boxes) most next total e (rw left at t)

pub growth_low : (more most next : ℤ) → next ≡ int_max most more → pos 0 ≤ℤ most → pos 0 ≤ℤ next
growth_low more most next e h = grind (arith, ints)
