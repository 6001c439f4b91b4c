-- Attributes of an owner that is known, and variables of the top level, as forms. What a reader
-- believes after this file: the form has the attribute's value in every world, and lies within what
-- the attribute's shape allows.
use Rattle.std.specs.Prelude.{◌≡◌, ℕ, ◌<◌, ◌≤◌, true, List, [], ◌∷◌, ℤ, pos, Option, length, take, slice_get, option_and_then}
use Rattle.class_table.specs.declared.table.Resolved.{Resolved}
use Rattle.class_table.specs.Outline.{Outline}
use Rattle.conf_types.specs.Types.{shape_type}
use Rattle.object_alloc.specs.declared.object.Cell.{Cell}
use Rattle.object_alloc.specs.declared.object.Domain.{Domain}
use Rattle.object_alloc.specs.Groups.{own_cells}
use Rattle.conf_eval.specs.Meaning.{attribute_value}
use Rattle.conf_limits.specs.Measures.{shape_interval, shape_reach}
use Rattle.signed_clause.specs.Ranges.{has}
use Rattle.signed_clause.specs.Clauses.{Boxes, box_of}
use Rattle.ground_form.specs.declared.ground.Ground.{Ground}
use Rattle.ground_form.specs.Meaning.{value_of}
use Rattle.form_build.specs.Forms.{HasVariable}
use Rattle.form_build.specs.Sums.{IsSum}
use Rattle.form_build.specs.Worlds.{IsWorld, IsInBoxes}
use Rattle.ground_cells.specs.CellBoxes.{domain_box}
use Rattle.expr_forms.specs.declared.form.Choice.{Choice}
use Rattle.expr_forms.specs.declared.form.Choice.TheVariants as choice
use Rattle.expr_forms.specs.declared.form.Form.{Form}
use Rattle.expr_forms.specs.FormBounds.{IsFormOf, target_count}
use Rattle.expr_forms.specs.FormValues.{form_value, number_part, truth_part}

-- x is the variable of the one cell of attribute k of the owner, and has the cell's values
pub record IsCellOf (o : Outline) (g : Ground) (owner : Option ℕ) (k : ℕ) (values : Domain) (x : ℕ) : Type 0 where
  pub own : own_cells o owner k ≡ x ∷ []
  pub searched : x < g.search
  pub exists : x < length g.domains
  pub box : box_of g.domains x ≡ domain_box o values

-- the object of a reference set's cell
abbrev pub element_at : List Cell → ℕ → Option ℕ
element_at cs i = option_and_then (λ (c : Cell). c.element) (slice_get cs i)

-- a variable has this value, and no other
pub record IsOnly (boxes : Boxes) (x : ℕ) (v : ℤ) : Type 0 where
  pub value : (a : List ℤ) → IsInBoxes boxes a → v ≡ value_of a x
  pub has_it : has (box_of boxes x) v ≡ true

-- the choice that a variable is, or the one value of its box
abbrev pub IsCellChoice : Boxes → ℕ → Choice → Type 0
IsCellChoice boxes x (choice.Fixed n) = has (box_of boxes x) (pos n) ≡ true
IsCellChoice boxes x (choice.Cell y) = y ≡ x
IsCellChoice boxes x (choice.Mapped y map) = ⊥

-- the form of attribute k of the owner, which has this shape
pub record IsAttributeForm (o : Outline) (g : Ground) (owner : Option ℕ) (k : ℕ) (s : Resolved) (f : Form) : Type 0 where
  pub stands : (a : List ℤ) → IsWorld g a → attribute_value o (take g.search a) owner k s
      ≡ form_value f a
  pub number : IsSum g.domains (shape_interval s).low (shape_interval s).high (number_part f)
  pub truth : HasVariable (length g.domains) (truth_part f)
  pub typed : IsFormOf o g.domains (shape_type s) f
  pub reached : (r : ℕ) → 1 ≤ r → target_count o f ≤ shape_reach o r s
