-- What an operator of a kind makes of values, by the parts of the forms that have these values.
use Rattle.std.proofs.Common.{◌≡◌, Bool, true, not, ◌&&◌, ◌||◌, List, ℤ, int_le, int_lt, refl, ap, ◌∙◌}
use Rattle.conf_syntax.specs.declared.tree.Op.{Op}
use Rattle.conf_syntax.specs.declared.tree.Op.TheVariants as op
use Rattle.conf_eval.specs.Meaning.{operate, int_of, truth_of, int_same, truth_same, same_value}
use Rattle.form_build.specs.Forms.{linear_at, truth_at}
use Rattle.expr_forms.specs.declared.form.Form.{Form}
use Rattle.expr_forms.specs.declared.form.Form.TheVariants as form
use Rattle.expr_forms.specs.FormValues.{form_value, number_part, truth_part}
use Rattle.expr_forms.proofs.PartValues.{number_part_at, truth_part_at}
use Rattle.operator_forms.specs.Operating.{joins_truths, compares_numbers, are_numbers, are_truths, compared_numbers, truth_between}

two_numbers : (k : ℤ → ℤ → Bool) (l r : Form) (a : List ℤ) → k (linear_at (number_part l) a) (linear_at (number_part r) a) ≡ k (int_of (form_value l a)) (int_of (form_value r a))
two_numbers k l r a =
    ap (λ (z : ℤ). k z (linear_at (number_part r) a)) (number_part_at l a)
    ∙ ap (λ (z : ℤ). k (int_of (form_value l a)) z) (number_part_at r a)

two_truths : (k : Bool → Bool → Bool) (l r : Form) (a : List ℤ) → k (truth_at (truth_part l) a) (truth_at (truth_part r) a) ≡ k (truth_of (form_value l a)) (truth_of (form_value r a))
two_truths k l r a =
    ap (λ (z : Bool). k z (truth_at (truth_part r) a)) (truth_part_at l a)
    ∙ ap (λ (z : Bool). k (truth_of (form_value l a)) z) (truth_part_at r a)

same_numbers : (l r : Form) (a : List ℤ) → are_numbers l r ≡ true → int_same (linear_at (number_part l) a) (linear_at (number_part r) a) ≡ same_value (form_value l a) (form_value r a)
same_numbers (form.Number f) (form.Number g) a h = refl
same_numbers l r a h = absurd cc

same_truth_values : (l r : Form) (a : List ℤ) → are_truths l r ≡ true → truth_same (truth_at (truth_part l) a) (truth_at (truth_part r) a) ≡ same_value (form_value l a) (form_value r a)
same_truth_values (form.Truth p) (form.Truth q) a h = refl
same_truth_values l r a h = absurd cc

pub comparison_made : (q : Op) (l r : Form) (a : List ℤ) → compares_numbers q l r ≡ true → compared_numbers q (linear_at (number_part l) a) (linear_at (number_part r) a) ≡ truth_of (operate q (form_value l a) (form_value r a))
comparison_made op.Eq l r a h = same_numbers l r a h
comparison_made op.Ne l r a h = ap not (same_numbers l r a h)
comparison_made op.Lt l r a h = two_numbers int_lt l r a
comparison_made op.Le l r a h = two_numbers int_le l r a
comparison_made op.Gt l r a h = two_numbers (λ v w. int_lt w v) l r a
comparison_made op.Ge l r a h = two_numbers (λ v w. int_le w v) l r a
comparison_made q l r a h = absurd cc

pub truth_made : (q : Op) (l r : Form) (a : List ℤ) → joins_truths q l r ≡ true → truth_between q (truth_at (truth_part l) a) (truth_at (truth_part r) a) ≡ truth_of (operate q (form_value l a) (form_value r a))
truth_made op.And l r a h = two_truths (λ p q. p && q) l r a
truth_made op.Or l r a h = two_truths (λ p q. p || q) l r a
truth_made op.Implies l r a h = two_truths (λ p q. not p || q) l r a
truth_made op.Eq l r a h = same_truth_values l r a h
truth_made op.Ne l r a h = ap not (same_truth_values l r a h)
truth_made q l r a h = absurd cc
