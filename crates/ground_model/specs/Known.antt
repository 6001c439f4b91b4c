-- Cells whose values are known. What a reader believes after this file: such a cell is searched,
-- and its value lies in its box.
use Rattle.std.specs.Prelude.{◌≡◌, ℕ, ◌<◌, Bool, true, List, [], ◌∷◌, ℤ, length}
use Rattle.std.specs.List.{All, list_all}
use Rattle.std.specs.Ordering.{int_eq}
use Rattle.class_table.specs.Outline.{Outline}
use Rattle.signed_clause.specs.Ranges.{has}
use Rattle.signed_clause.specs.Clauses.{Boxes, box_of}
use Rattle.ground_form.specs.declared.ground.Ground.{Ground}
use Rattle.ground_form.specs.Meaning.{value_of}
use Rattle.form_build.specs.Worlds.{IsWorld, AllHold, AreKnown}
use Rattle.ground_cells.specs.CellBoxes.{cell_boxes}
use Rattle.expr_forms.specs.Standing.{HasCells}

pub record IsKnownCell (g : Ground) (k : ℕ × ℤ) : Type 0 where
  pub searched : k.0 < g.search
  pub lies : has (box_of g.domains k.0) k.1 ≡ true

-- the first variables of the problem are the cells, and some of these are known
pub record HasKnown (o : Outline) (known : List (ℕ × ℤ)) (g : Ground) : Type 0 where
  pub cells : HasCells o g
  pub are_known : All (IsKnownCell g) known

-- where all constraints hold the known cells have their values
abbrev pub AreFixed : List (ℕ × ℤ) → Ground → Type 0
AreFixed known g = (a : List ℤ) → IsWorld g a → AllHold g a → AreKnown known a

-- the box of one of the first n variables has this value alone
pub record IsSingle (boxes : Boxes) (n : ℕ) (k : ℕ × ℤ) : Type 0 where
  pub first : k.0 < n
  pub single : box_of boxes k.0 ≡ (k.1, k.1) ∷ []

-- the cell may have the value
pub record IsValueOfCell (o : Outline) (k : ℕ × ℤ) : Type 0 where
  pub cell : k.0 < length (cell_boxes o)
  pub lies : has (box_of (cell_boxes o) k.0) k.1 ≡ true

-- the cells have these values
abbrev pub have_values : List ℤ → List (ℕ × ℤ) → Bool
have_values values known = list_all (λ k. int_eq (value_of values k.0) k.1) known
