-- Boxes that are single values, and the values that they hold.
use Rattle.std.proofs.Common.{◌≡◌, ℕ, zero, suc, ◌<◌, false, List, [], ◌∷◌, ℤ, All, length, get_or}
use Rattle.std.proofs.Common.{refl, sym, ap, subst, ◌∙◌, arith}
use Rattle.std.proofs.lemmas.Int.{ints}
use Rattle.signed_clause.specs.Ranges.{Ranges, is_nil, IsValid}
use Rattle.signed_clause.specs.Clauses.{Boxes, box_of}
use Rattle.ground_form.specs.Meaning.{value_of}
use Rattle.ground_form.specs.Bounds.{low_of, high_of, singles}
use Rattle.box_view.proofs.EndLaws.{AreSingle, high_from-ge}
use Rattle.rule_law.specs.Singles.{IsSingle, least_values}

-- a set whose ends are the same value is that value alone
pub single_ends : (s : Ranges) → IsValid s → is_nil s ≡ false → low_of s ≡ high_of s →
    IsSingle s
single_ends [] f n e = absurd cc
single_ends (r ∷ []) f n e = (r.0, ap (λ (v : ℤ). (r.0, v) ∷ []) (sym e))
single_ends (r ∷ q ∷ rs) f n e =
    let end = high_from-ge q.1 _ _ rs f.2.2 (omega (arith, ints)) in
    let order = f.1 in
    let gap = f.2.0 in
    let next = f.2.1 in
    absurd (omega (arith, ints))

single_low : (s : Ranges) → IsSingle s → s ≡ (low_of s, low_of s) ∷ []
single_low s h = subst (λ (z : Ranges). z ≡ (low_of z, low_of z) ∷ []) (sym h.1) refl

-- ---- the values that boxes hold

pub value_of-least_values : (boxes : Boxes) (x : ℕ) →
    value_of (least_values boxes) x ≡ low_of (box_of boxes x)
value_of-least_values [] x = refl
value_of-least_values (b ∷ boxes) zero = refl
value_of-least_values (b ∷ boxes) (suc x) = value_of-least_values boxes x

pub length-least_values : (boxes : Boxes) → length (least_values boxes) ≡ length boxes
length-least_values [] = refl
length-least_values (b ∷ boxes) = ap suc (length-least_values boxes)

single_at : (boxes : Boxes) (x : ℕ) → IsSingle (box_of boxes x) →
    box_of boxes x ≡ (value_of (least_values boxes) x, value_of (least_values boxes) x) ∷ []
single_at boxes x h =
    subst (λ (v : ℤ). box_of boxes x ≡ (v, v) ∷ []) (sym (value_of-least_values boxes x))
    (single_low (box_of boxes x) h)

-- the boxes of the variables of the list are the values that they hold
pub single_list : (xs : List ℕ) (boxes : Boxes) → All (λ x. IsSingle (box_of boxes x)) xs →
    AreSingle xs boxes (least_values boxes)
single_list xs boxes h k d lt = single_at boxes (get_or xs k d) (h k d lt)

-- where all boxes are single, they are these values
pub single_boxes : (boxes : Boxes) → ((x : ℕ) → x < length boxes → IsSingle (box_of boxes x)) →
    boxes ≡ singles (least_values boxes)
single_boxes [] h = refl
single_boxes (b ∷ boxes) h =
    let first = single_low b (h 0 (omega arith)) in
    let rest = single_boxes boxes (λ x lt. h (suc x) (omega arith)) in
    ap (λ (s : Ranges). s ∷ boxes) first
    ∙ ap (λ (bs : Boxes). ((low_of b, low_of b) ∷ []) ∷ bs) rest
