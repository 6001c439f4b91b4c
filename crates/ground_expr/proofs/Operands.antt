-- Sides of operators that are no numbers and no truths.
use Rattle.std.proofs.Common.{◌≡◌, Bool, false, List, [], ℤ, length, refl, ap}
use Rattle.class_table.specs.Outline.{Outline}
use Rattle.conf_syntax.specs.declared.tree.Op.{Op}
use Rattle.conf_syntax.specs.declared.tree.Op.TheVariants as op
use Rattle.conf_eval.specs.declared.value.Value.TheVariants.{Truth}
use Rattle.conf_eval.specs.Meaning.{operate, truth_of, object_of}
use Rattle.conf_limits.specs.declared.interval.Interval.{Interval}
use Rattle.signed_clause.specs.Clauses.{Boxes}
use Rattle.ground_form.specs.declared.ground.Ground.{Ground}
use Rattle.form_build.specs.declared.form.Truth.{Truth as ATruth}
use Rattle.form_build.specs.Forms.{truth_at, HasVariable}
use Rattle.form_build.specs.Worlds.{IsWorld, Defines}
use Rattle.form_build.proofs.Growth.{adds_nothing}
use Rattle.expr_forms.specs.declared.form.Form.{Form}
use Rattle.expr_forms.specs.declared.form.Form.TheVariants as form
use Rattle.expr_forms.specs.FormValues.{form_value, choice_at}
use Rattle.expr_forms.proofs.Trees.{no_number}
use Rattle.ground_expr.specs.Chosen.{choice_part}
use Rattle.operator_forms.specs.Operating.{is_plain}
use Rattle.identity_forms.specs.Choices.{IsChoice}
use Rattle.operator_forms.specs.Operating.{IsOperated}
use Rattle.ground_expr.specs.Usable.{IsUsable}

pub nothing_made : (g : Ground) → Defines g g
nothing_made g = adds_nothing [] g

-- the object that a form is
pub chosen_object : (f : Form) (a : List ℤ) → choice_at (choice_part f) a ≡ object_of (form_value f a)
chosen_object (form.Object d c) a = refl
chosen_object (form.Number f) a = refl
chosen_object (form.Truth t) a = refl
chosen_object (form.Choice e c) a = refl
chosen_object (form.List l) a = refl

pub chosen_usable : (boxes : Boxes) (f : Form) → IsUsable boxes f → IsChoice boxes (choice_part f)
chosen_usable boxes (form.Object d c) h = h
chosen_usable boxes (form.Number f) h = tt
chosen_usable boxes (form.Truth t) h = tt
chosen_usable boxes (form.Choice e c) h = tt
chosen_usable boxes (form.List l) h = tt

-- an operator that isn't plain makes a truth
pub target_is : (o : Outline) (g : Ground) (q : Op) (i j : Interval) (l r : Form) (t : ATruth) → is_plain q l r ≡ false → HasVariable (length g.domains) t → ((a : List ℤ) → IsWorld g a → truth_at t a ≡ truth_of (operate q (form_value l a) (form_value r a))) → IsOperated o g q i j l r (form.Truth t)
target_is o g op.In i j l r t p v h = record { value = λ a w. ap (λ (b : Bool). Truth b) (h a w); number = no_number g.domains _ _ refl refl; truth = v; typed = tt }
target_is o g op.Eq i j l r t p v h = record { value = λ a w. ap (λ (b : Bool). Truth b) (h a w); number = no_number g.domains _ _ refl refl; truth = v; typed = tt }
target_is o g op.Ne i j l r t p v h = record { value = λ a w. ap (λ (b : Bool). Truth b) (h a w); number = no_number g.domains _ _ refl refl; truth = v; typed = tt }
target_is o g op.Lt i j l r t p v h = cc
target_is o g op.Le i j l r t p v h = cc
target_is o g op.Gt i j l r t p v h = cc
target_is o g op.Ge i j l r t p v h = cc
target_is o g op.Implies i j l r t p v h = cc
target_is o g op.Or i j l r t p v h = cc
target_is o g op.And i j l r t p v h = cc
target_is o g op.Add i j l r t p v h = cc
target_is o g op.Sub i j l r t p v h = cc
target_is o g op.Mul i j l r t p v h = cc
