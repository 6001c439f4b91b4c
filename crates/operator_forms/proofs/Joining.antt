-- Truths joined: what they come to by what they are made of.
use Rattle.std.proofs.Common.{◌≡◌, Bool, true, false, not, ◌&&◌, ◌||◌, ℤ, refl, ap, ◌∙◌}
use Rattle.std.specs.Ordering.{int_eq}
use Rattle.conf_eval.specs.Meaning.{truth_same}
use Rattle.ground_form.specs.Meaning.{bit}

pub both_value : (p q not_p not_q some none : Bool) → not_p ≡ not p → not_q ≡ not q → some ≡ (not_p || not_q) → none ≡ not some → none ≡ (p && q)
both_value p q not_p not_q some none e f g h = h ∙ ap not (g ∙ ap (λ (z : Bool). z || not_q) e ∙ ap (λ (z : Bool). not p || z) f) ∙ turned p q
  where
    turned : (p q : Bool) → not (not p || not q) ≡ (p && q)
    turned true true = refl
    turned true false = refl
    turned false q = refl

bits_same : (p q : Bool) → int_eq (bit p) (bit q) ≡ truth_same p q
bits_same true true = refl
bits_same true false = refl
bits_same false true = refl
bits_same false false = refl

-- two flags are the same where the truths are that they are
pub flags_same : (p q : Bool) (x y : ℤ) → x ≡ bit p → y ≡ bit q → int_eq x y ≡ truth_same p q
flags_same p q x y e f = ap (λ (z : ℤ). int_eq z y) e ∙ ap (λ (z : ℤ). int_eq (bit p) z) f ∙ bits_same p q
