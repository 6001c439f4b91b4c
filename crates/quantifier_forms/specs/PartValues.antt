-- What the parts of a quantifier mean. What a reader believes after this file: which values of the
-- bodies a quantifier is over, what it is over them, and what each part gives to that.
use Rattle.std.specs.Prelude.{Bool, true, ◌&&◌, cond, List, [], ◌∷◌, map, ℤ, pos, count_by}
use Rattle.std.specs.List.{list_all, list_any}
use Rattle.conf_syntax.specs.declared.tree.QuantKind.{QuantKind}
use Rattle.conf_syntax.specs.declared.tree.QuantKind.TheVariants as kind
use Rattle.ground_form.specs.Meaning.{bit}
use Rattle.form_build.specs.declared.form.Linear.{Linear}
use Rattle.form_build.specs.Forms.{truth_at}
use Rattle.form_truths.specs.Tests.{wanted}
use Rattle.conf_eval.specs.declared.value.Value.{Value}
use Rattle.conf_eval.specs.declared.value.Value.TheVariants.{Int, Truth}
use Rattle.conf_eval.specs.Meaning.{int_of, first_of, item_of, total, all_differ, fits_all, all_true}
use Rattle.expr_forms.specs.declared.form.Form.{Form}
use Rattle.expr_forms.specs.FormValues.{form_value, nought, number_part}
use Rattle.quantifier_forms.specs.declared.part.Part.{Part}

-- the values of forms
abbrev pub form_values : List Form → List ℤ → List Value
form_values fs a = map (λ (f : Form). form_value f a) fs

-- all of them hold
abbrev pub are_true : List Form → List ℤ → Bool
are_true fs a = all_true (form_values fs a)

-- the values of the bodies at a possible member
abbrev pub body_values : Part → List ℤ → List Value
body_values p a = form_values p.bodies.items a

-- those at the members that meet the filter, in order
abbrev pub kept_values : List Part → List ℤ → List (List Value)
kept_values [] a = []
kept_values (p ∷ ps) a =
    cond (truth_at p.kept a) (body_values p a ∷ kept_values ps a) (kept_values ps a)

-- a quantifier over such values
abbrev pub over_values : QuantKind → List (List Value) → Value
over_values kind.Forall vss = Truth (list_all all_true vss)
over_values kind.Exists vss = Truth (list_any all_true vss)
over_values kind.Sum vss = Int (total (map (λ (vs : List Value). int_of (first_of vs)) vss))
over_values kind.Count vss = Int (pos (count_by all_true vss))
over_values kind.AllDifferent vss = Truth (all_differ (map first_of vss))
over_values kind.Pack vss = Truth (fits_all (map item_of vss) (map item_of vss))

-- ---- each part on its own

-- it is kept and its bodies all hold; or, where that isn't wanted, it is kept and some body doesn't
abbrev pub is_case : Bool → Part → List ℤ → Bool
is_case want p a = truth_at p.kept a && wanted want (all_true (body_values p a))

-- what it adds to a sum or a count
abbrev pub share : QuantKind → Part → List ℤ → ℤ
share kind.Sum p a = cond (truth_at p.kept a) (int_of (first_of (body_values p a))) (pos 0)
share kind.Count p a = bit (is_case true p a)
share kind.Forall p a = pos 0
share kind.Exists p a = pos 0
share kind.AllDifferent p a = pos 0
share kind.Pack p a = pos 0

-- the number that the first body is
abbrev pub first_number : List Form → Linear
first_number [] = nought
first_number (f ∷ fs) = number_part f
