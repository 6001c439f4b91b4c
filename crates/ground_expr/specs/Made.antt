-- What making the form of an expression comes to. What a reader believes after this file: in the
-- problem that it was made in, the form stands for the expression wherever the known cells have
-- their values, and only definitions were added; and the form of a path of parts is the same in
-- every world.
use Rattle.std.specs.Prelude.{◌≡◌, true, ℕ, List, ℤ, Option}
use Rattle.class_table.specs.Outline.{Outline}
use Rattle.conf_types.specs.Trees.{Tree}
use Rattle.ground_form.specs.declared.ground.Ground.{Ground}
use Rattle.form_build.specs.Worlds.{Defines}
use Rattle.expr_forms.specs.declared.form.Form.{Form}
use Rattle.expr_forms.specs.FormBounds.{IsGroundForm}
use Rattle.expr_forms.specs.FixedForms.{is_fixed_form}
use Rattle.ground_expr.specs.Fixed.{is_fixed_path}

pub record IsMade (o : Outline) (known : List (ℕ × ℤ)) (old new : Ground) (t : Tree) (this : Option ℕ) (vars : List ℕ) (f : Form) : Type 0 where
  pub form : IsGroundForm o new known t this vars f
  pub adds : Defines old new
  pub fixed : is_fixed_path t ≡ true → is_fixed_form f ≡ true
