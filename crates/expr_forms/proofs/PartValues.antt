-- The parts of a form have its values.
use Rattle.std.proofs.Common.{◌≡◌, List, ℤ, refl, arith}
use Rattle.std.proofs.lemmas.Int.{ints}
use Rattle.form_build.specs.Forms.{linear_at, truth_at}
use Rattle.conf_eval.specs.Meaning.{int_of, truth_of}
use Rattle.expr_forms.specs.declared.form.Form.{Form}
use Rattle.expr_forms.specs.declared.form.Form.TheVariants as form
use Rattle.expr_forms.specs.FormValues.{form_value, number_part, truth_part}

pub number_part_at : (f : Form) (a : List ℤ) → linear_at (number_part f) a ≡ int_of (form_value f a)
number_part_at (form.Number f) a = refl
number_part_at (form.Truth t) a = omega (arith, ints)
number_part_at (form.Choice e c) a = omega (arith, ints)
number_part_at (form.Object d c) a = omega (arith, ints)
number_part_at (form.List l) a = omega (arith, ints)

pub truth_part_at : (f : Form) (a : List ℤ) → truth_at (truth_part f) a ≡ truth_of (form_value f a)
truth_part_at (form.Truth t) a = refl
truth_part_at (form.Number f) a = refl
truth_part_at (form.Choice e c) a = refl
truth_part_at (form.Object d c) a = refl
truth_part_at (form.List l) a = refl
