-- When a form stands for an expression. What a reader believes after this file: in every world of
-- the problem in which the known cells have their values, the form has the expression's value at
-- the configuration that the world begins with.
use Rattle.std.specs.Prelude.{◌≡◌, ℕ, Bool, not, cond, List, [], ◌++◌, ℤ, Option, length, take}
use Rattle.class_table.specs.Outline.{Outline}
use Rattle.conf_types.specs.Trees.{Tree}
use Rattle.signed_clause.specs.Clauses.{Boxes}
use Rattle.ground_form.specs.declared.ground.Ground.{Ground}
use Rattle.form_build.specs.Worlds.{IsWorld, AreKnown}
use Rattle.conf_eval.specs.Fitting.{IsEvaluable}
use Rattle.conf_eval.specs.Meaning.{Setting, value, truth_of}
use Rattle.ground_cells.specs.CellBoxes.{cell_boxes}
use Rattle.expr_forms.specs.declared.form.Form.{Form}
use Rattle.expr_forms.specs.FormValues.{form_value}

-- where an expression stands, without a configuration
abbrev pub bare_setting : Outline → Option ℕ → List ℕ → Setting
bare_setting o this vars = record { outline = o; values = []; this = this; vars = vars }

-- the expression is typed where it stands, and its numbers are narrow; no configuration plays a
-- part in this
abbrev pub IsStanding : Outline → Tree → Option ℕ → List ℕ → Type 0
IsStanding o t this vars = IsEvaluable o [] t (bare_setting o this vars)

-- the first variables of the problem are the cells, each with its box, and they are searched
pub record HasCells (o : Outline) (g : Ground) : Type 0 where
  pub searched : g.search ≡ length (cell_boxes o)
  pub rest : Boxes
  pub domains : g.domains ≡ cell_boxes o ++ rest

-- the setting of a world: the configuration is its front
abbrev pub world_setting : Outline → Ground → List ℤ → Option ℕ → List ℕ → Setting
world_setting o g a this vars =
    record { outline = o; values = take g.search a; this = this; vars = vars }

-- in every world the form has the expression's value
abbrev pub Stands : Outline → Ground → List (ℕ × ℤ) → Tree → Option ℕ → List ℕ → Form → Type 0
Stands o g known t this vars f =
    (a : List ℤ) → IsWorld g a → AreKnown known a → value t (world_setting o g a this vars)
    ≡ form_value f a

-- whether the expression's truth in a world is the wanted one
abbrev pub is_wanted : Outline → Ground → Tree → Option ℕ → List ℕ → Bool → List ℤ → Bool
is_wanted o g t this vars want a =
    cond want (truth_of (value t (world_setting o g a this vars)))
    (not (truth_of (value t (world_setting o g a this vars))))
