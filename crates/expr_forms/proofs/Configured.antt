-- The front of a world is a configuration, so what holds of typed values holds there.
use Rattle.std.proofs.Common.{◌≡◌, ℕ, zero, suc, ◌<◌, true, List, [], ◌∷◌, ℤ, Option, length, take, ◌++◌, append_assoc, length-append, length-take, refl, sym, ap, ◌∙◌, subst, arith}
use Rattle.class_table.specs.Outline.{Outline}
use Rattle.conf_types.specs.Trees.{Tree}
use Rattle.object_alloc.specs.Configurations.{IsConfiguration}
use Rattle.conf_eval.specs.Fitting.{IsEvaluable}
use Rattle.signed_clause.specs.Ranges.{Ranges, has}
use Rattle.signed_clause.specs.Clauses.{Boxes, box_of}
use Rattle.ground_form.specs.declared.ground.Ground.{Ground}
use Rattle.ground_form.specs.Meaning.{value_of}
use Rattle.form_build.specs.Worlds.{IsWorld, Grows}
use Rattle.form_build.proofs.Lists.{box_front}
use Rattle.ground_cells.specs.CellBoxes.{cell_boxes}
use Rattle.ground_cells.proofs.Points.{cells_agree}
use Rattle.expr_forms.specs.Standing.{IsStanding, HasCells, world_setting}

-- the front of a list has its values
pub front_value : (n i : ℕ) (a : List ℤ) → i < n → value_of (take n a) i ≡ value_of a i
front_value zero i a h = absurd (omega (arith, h))
front_value (suc n) i [] h = refl
front_value (suc n) zero (v ∷ a) h = refl
front_value (suc n) (suc i) (v ∷ a) h = front_value n i a (omega (arith, h))

-- a cell's variable has the cell's box
pub cell_box : (o : Outline) (g : Ground) (x : ℕ) → HasCells o g → x < g.search → box_of g.domains x ≡ box_of (cell_boxes o) x
cell_box o g x h lt =
    ap (λ (z : Boxes). box_of z x) h.domains ∙ box_front (cell_boxes o) h.rest x (omega (arith, lt, h.searched))

pub cells_exist : (o : Outline) (g : Ground) (x : ℕ) → HasCells o g → x < g.search → x < length g.domains
cells_exist o g x h lt =
    let e = ap (λ (z : Boxes). length z) h.domains in
    omega (arith, e, lt, h.searched, length-append (cell_boxes o) h.rest)

pub cells_still : (o : Outline) (old new : Ground) → Grows old new → HasCells o old → HasCells o new
cells_still o old new g h = record {
  searched = g.search ∙ h.searched;
  rest = h.rest ++ g.more;
  domains = g.domains ∙ ap (λ (z : Boxes). z ++ g.more) h.domains ∙ append_assoc (cell_boxes o) h.rest g.more;
}

-- in a world the cells' values are a configuration
pub world_configuration : (o : Outline) (g : Ground) (a : List ℤ) → HasCells o g → IsWorld g a → IsConfiguration o (take g.search a)
world_configuration o g a h w =
    let size : length (take g.search a) ≡ length (cell_boxes o) = omega (arith, length-take g.search a, w.long, h.searched) in
    (cells_agree o (take g.search a)).0 (record {
      size = size;
      within = λ x lt.
          let low : x < g.search = omega (arith, lt, h.searched) in
          subst (λ (v : ℤ). has (box_of (cell_boxes o) x) v ≡ true) (sym (front_value g.search x a low))
          (subst (λ (z : Ranges). has z (value_of a x) ≡ true) (cell_box o g x h low) (w.within x (cells_exist o g x h low)));
    })

-- what stands somewhere may be evaluated in each world
pub evaluable_there : (o : Outline) (g : Ground) (a : List ℤ) (t : Tree) (this : Option ℕ) (vars : List ℕ) → IsStanding o t this vars → IsEvaluable o (take g.search a) t (world_setting o g a this vars)
evaluable_there o g a t this vars e = record {
  place = e.place;
  type = e.type;
  setting = record { outline = refl; values = refl; this = e.setting.this; vars = e.setting.vars };
  typed = e.typed;
  numbers = e.numbers;
}
