-- Rows that together are a packing. What a reader believes after this file: in the boxes each row
-- counts the same items, those that may be in its bin; each item is in the bin of a row.
use Rattle.std.specs.Prelude.{◌≡◌, ℕ, ◌<◌, ◌^◌, ◌≤◌, Bool, true, cond, List, [], ◌∷◌, ℤ, pos, negsuc, ◌+ℤ◌, ◌-ℤ◌, ◌≤ℤ◌, ◌<ℤ◌, length, unsigned_abs}
use Rattle.std.specs.List.{All, list_any}
use Rattle.std.specs.Ordering.{int_eq}
use Rattle.model_limits.specs.Limits.{most_width}
use Rattle.signed_clause.specs.Ranges.{has}
use Rattle.signed_clause.specs.Clauses.{Boxes, box_of}
use Rattle.ground_form.specs.declared.ground.Ground.{Ground}
use Rattle.ground_form.specs.Meaning.{value_of, load_at}
use Rattle.ground_build.specs.Growing.{AreItemVariables}
use Rattle.form_build.specs.Worlds.{IsInBoxes, IsWorld}
use Rattle.packed_rows.specs.declared.row.Row.{Row}
use Rattle.packed_rows.specs.Loads.{load_of}

-- it is the bin of some row
abbrev pub is_bin : List Row → ℤ → Bool
is_bin rows v = list_any (λ r. int_eq r.bin v) rows

-- a number that can be a constant
abbrev pub IsSmall : ℤ → Type 0
IsSmall v = unsigned_abs v ≤ most_width

-- the items count in the bin of the row as its own loads do, and its room is small and at most
-- the greatest
pub record IsRowOf (boxes : Boxes) (items : List (ℕ × ℤ)) (most : ℤ) (r : Row) : Type 0 where
  pub same : (a : List ℤ) → IsInBoxes boxes a → load_of r.bin items a
      ≡ load_of r.bin r.loads.items a
  pub bin : IsSmall r.bin
  pub low : pos 0 ≤ℤ r.room
  pub high : r.room ≤ℤ most

-- the bins of the rows ascend from above v on
abbrev pub AscendAbove : ℤ → List Row → Type 0
AscendAbove v [] = Unit {0}
AscendAbove v (r ∷ rows) = (v <ℤ r.bin) × AscendAbove r.bin rows

-- the item is a variable whose values are all bins of rows, and its size is small
pub record IsItem (boxes : Boxes) (rows : List Row) (i : ℕ × ℤ) : Type 0 where
  pub exists : i.0 < length boxes
  pub at_bins : (v : ℤ) → has (box_of boxes i.0) v ≡ true → is_bin rows v ≡ true
  pub size : IsSmall i.1

-- the rows are a packing of the items, of which each has the greatest room
pub record IsPlan (boxes : Boxes) (rows : List Row) (items : List (ℕ × ℤ)) (most : ℤ) : Type 0 where
  pub rows_are : All (IsRowOf boxes items most) rows
  pub ascend : AscendAbove (negsuc 0) rows
  pub items_are : All (IsItem boxes rows) items
  pub low : pos 0 ≤ℤ most
  pub small : IsSmall most

-- what fills up the room of a bin to the greatest
abbrev pub filling : ℤ → ℤ → List Row → ℤ
filling most bin [] = pos 0
filling most bin (r ∷ rows) =
    cond (int_eq r.bin bin) ((most -ℤ r.room) +ℤ filling most bin rows)
    (filling most bin rows)

-- in every world the packed items load each bin as the items and the fillings do, stand where
-- these stand, and have the greatest room
pub record ArePacked (g : Ground) (items : List (ℕ × ℤ)) (fillers : List Row) (most : ℤ) (packed : List (ℕ × ℕ × ℕ)) : Type 0 where
  pub exist : All (AreItemVariables g) packed
  pub load : (a : List ℤ) → IsWorld g a → (bin : ℤ) → load_at bin packed a
      ≡ (load_of bin items a +ℤ filling most bin fillers)
  pub at_bins : (test : ℤ → Bool) (a : List ℤ) → IsWorld g a
      → All (λ i. test (value_of a i.0) ≡ true) items → All (λ r. test r.bin ≡ true) fillers
      → All (λ p. test (value_of a p.0) ≡ true) packed
  pub rooms : (a : List ℤ) → IsWorld g a → All (λ p. value_of a p.2 ≡ most) packed

-- x is a variable that is the number in every world
pub record IsConstant (g : Ground) (x : ℕ) (v : ℤ) : Type 0 where
  pub exists : x < length g.domains
  pub value : (a : List ℤ) → IsWorld g a → value_of a x ≡ v
