-- Extents that were listed, by the numbers of their classes.
use Rattle.std.specs.Prelude.{◌≡◌, ℕ, List, [], Option, None, Some, slice_index_or}
use Rattle.std.specs.Option.{option_map_or}
use Rattle.class_table.specs.declared.table.Class.{Class}
use Rattle.object_alloc.specs.declared.object.Object.{Object}
use Rattle.object_alloc.specs.Cells.{extent_from}

abbrev pub listed : List (Option (List ℕ)) → ℕ → Option (List ℕ)
listed lists c = slice_index_or lists c None

-- the list of a class, where it has one
abbrev pub list_of : List (Option (List ℕ)) → ℕ → List ℕ
list_of lists c = option_map_or (λ (numbers : List ℕ). numbers) (listed lists c) []

-- each list is the extent of its class
abbrev pub AreExtents : List Class → List Object → List (Option (List ℕ)) → Type 0
AreExtents cs xs lists =
    (c : ℕ) (numbers : List ℕ) → listed lists c ≡ Some numbers → numbers ≡ extent_from cs c 0 xs
