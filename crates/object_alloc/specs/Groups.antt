-- What an attribute of an object, or a variable of the top level, holds: objects, or cells. Both
-- are told by their numbers.
use Rattle.std.specs.Prelude.{ℕ, suc, Bool, true, false, ◌&&◌, cond, List, [], ◌∷◌, Option, None, Some, nat_eq}
use Rattle.class_table.specs.Outline.{Outline}
use Rattle.object_alloc.specs.declared.object.Cell.{Cell}
use Rattle.object_alloc.specs.declared.object.Object.{Object}
use Rattle.object_alloc.specs.Cells.{cells}
use Rattle.object_alloc.specs.Walk.{objects}

-- the numbers of the items that pass the test, where the first item has number n
abbrev pub numbers_from : {X : Type 0} → (X → Bool) → ℕ → List X → List ℕ
numbers_from test n [] = []
numbers_from test n (x ∷ xs) =
    cond (test x) (n ∷ numbers_from test (suc n) xs) (numbers_from test (suc n) xs)

abbrev pub same_owner : Option ℕ → Option ℕ → Bool
same_owner None None = true
same_owner (Some m) (Some n) = nat_eq m n
same_owner one other = false

-- attribute k of the owner is attribute j of the other one
abbrev pub is_at_place : Option ℕ → ℕ → Option ℕ → ℕ → Bool
is_at_place owner k other j = same_owner owner other && nat_eq k j

abbrev pub is_part_of : Option ℕ → ℕ → Object → Bool
is_part_of owner k x = is_at_place owner k x.owner x.attribute

abbrev pub is_cell_of : Option ℕ → ℕ → Cell → Bool
is_cell_of owner k c = is_at_place owner k c.owner c.attribute

-- the objects that attribute k of the owner holds, in order
abbrev pub parts_of : Outline → Option ℕ → ℕ → List ℕ
parts_of o owner k = numbers_from (is_part_of owner k) 0 (objects o)

-- the cells of attribute k of the owner, in order
abbrev pub own_cells : Outline → Option ℕ → ℕ → List ℕ
own_cells o owner k = numbers_from (is_cell_of owner k) 0 (cells o)
