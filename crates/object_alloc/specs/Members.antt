-- What a configuration says at some cells: the value of the first; at those of a reference set
-- which objects are its members, and whether they are as many as its shape says.
use Rattle.std.specs.Prelude.{◌≡◌, ℕ, Bool, ◌&&◌, cond, List, [], ◌∷◌, Option, None, ℤ, pos, int_le, filter_map, length, slice_get, slice_index_or, option_and_then}
use Rattle.class_table.specs.declared.table.Resolved.TheVariants.{RefSet}
use Rattle.class_table.specs.Outline.{Outline}
use Rattle.object_alloc.specs.declared.object.Cell.{Cell}
use Rattle.object_alloc.specs.declared.object.Leaf.{Leaf}
use Rattle.object_alloc.specs.Cells.{cells}
use Rattle.object_alloc.specs.Groups.{own_cells}

abbrev pub is_one : ℤ → Bool
is_one v = int_le v (pos 1) && int_le (pos 1) v

abbrev pub value_at : List ℤ → ℕ → ℤ
value_at values i = slice_index_or values i (pos 0)

-- the value of the first of these cells
abbrev pub first_value : List ℤ → List ℕ → ℤ
first_value values [] = pos 0
first_value values (i ∷ is) = value_at values i

-- the object that cell i of a reference set stands for, where it is in
abbrev pub member_at : List Cell → List ℤ → ℕ → Option ℕ
member_at cs values i =
    cond (is_one (value_at values i)) (option_and_then (λ (c : Cell). c.element) (slice_get cs i))
    None

-- if the leaf is a reference set, it has as many members as its shape says
abbrev pub HasItsSize : Outline → List ℤ → Leaf → Type 0
HasItsSize o values l =
    (c n : ℕ) → l.shape ≡ RefSet c n
    → length (filter_map (member_at (cells o) values) (own_cells o l.owner l.attribute)) ≡ n
