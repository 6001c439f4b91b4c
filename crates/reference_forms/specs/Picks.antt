-- The cell of an attribute of a chosen object. What a reader believes after this file: in every
-- world the variable has the value of the cell of the object that is chosen there.
use Rattle.std.specs.Prelude.{◌≡◌, ℕ, ◌<◌, true, List, [], ◌∷◌, ℤ, Some, length, map, take}
use Rattle.std.specs.List.{All}
use Rattle.class_table.specs.declared.table.Resolved.{Resolved}
use Rattle.class_table.specs.Outline.{Outline}
use Rattle.object_alloc.specs.declared.object.Domain.{Domain}
use Rattle.object_alloc.specs.Cells.{domain_of}
use Rattle.object_alloc.specs.Groups.{own_cells}
use Rattle.object_alloc.specs.Members.{first_value}
use Rattle.signed_clause.specs.Ranges.{Ranges, has}
use Rattle.signed_clause.specs.Clauses.{Boxes, box_of}
use Rattle.ground_form.specs.declared.ground.Ground.{Ground}
use Rattle.ground_form.specs.Bounds.{low_of, high_of}
use Rattle.ground_form.specs.Meaning.{value_of}
use Rattle.form_build.specs.Worlds.{IsInBoxes, IsWorld}
use Rattle.conf_eval.specs.Meaning.{first_object}
use Rattle.ground_cells.specs.CellBoxes.{domain_box}
use Rattle.expr_forms.specs.FormValues.{number_for}

-- for each value the cell of attribute k of the object that goes with it
abbrev pub cell_items : Outline → ℕ → List (ℤ × ℕ) → List (ℤ × ℕ)
cell_items o k pairs = map (λ p. (p.0, first_object (own_cells o (Some p.1) k))) pairs

-- the boxes of all items' variables have these ends
abbrev pub AreAlike : Boxes → ℤ × ℤ → List (ℤ × ℕ) → Type 0
AreAlike boxes ends items =
    All (λ t. (low_of (box_of boxes t.1), high_of (box_of boxes t.1)) ≡ ends) items

-- y is the variable of the first item
abbrev pub IsFirst : ℕ → List (ℤ × ℕ) → Type 0
IsFirst y [] = ⊥
IsFirst y (t ∷ ts) = t.1 ≡ y

-- in the boxes y has the value of each item's variable, and it is one of these
pub record IsCommon (boxes : Boxes) (items : List (ℤ × ℕ)) (y : ℕ) : Type 0 where
  pub exists : y < length boxes
  pub value : (a : List ℤ) → IsInBoxes boxes a → All (λ t. value_of a y ≡ value_of a t.1) items
  pub box : (s : Ranges) → All (λ t. box_of boxes t.1 ≡ s) items → box_of boxes y ≡ s

-- an attribute of this shape has one cell, with these values
pub record HasDomain (o : Outline) (s : Resolved) : Type 0 where
  pub values : Domain
  pub is : domain_of o s ≡ Some values

-- in every world y is the variable of the item whose value the index has, and where the boxes of
-- all items are the same, that of y has no other values
pub record IsPicked (old new : Ground) (index : ℕ) (items : List (ℤ × ℕ)) (y : ℕ) : Type 0 where
  pub exists : y < length new.domains
  pub value : (a : List ℤ) → IsWorld new a → All (λ t. value_of a index ≡ t.0 → value_of a y
      ≡ value_of a t.1) items
  pub within : (s : Ranges) → All (λ t. box_of old.domains t.1 ≡ s) items → (v : ℤ)
      → has (box_of new.domains y) v ≡ true → has s v ≡ true

-- in every world y is the cell of attribute k of the object that the map gives for the value of x,
-- and it has the cell's values
pub record IsChosenCell (o : Outline) (g : Ground) (x : ℕ) (pairs : List (ℤ × ℕ)) (k : ℕ) (values : Domain) (y : ℕ) : Type 0 where
  pub exists : y < length g.domains
  pub value : (a : List ℤ) → IsWorld g a → first_value (take g.search a)
      (own_cells o (Some (number_for (value_of a x) pairs)) k) ≡ value_of a y
  pub within : (v : ℤ) → has (box_of g.domains y) v ≡ true → has (domain_box o values) v ≡ true
