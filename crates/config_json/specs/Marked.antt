-- Former values as they are kept.
use Rattle.std.specs.Prelude.{ℕ, Bool, false, List, [], ℤ, Option, map, slice_get, slice_index_or, option_and_then}
use Rattle.class_table.specs.declared.table.Resolved.{Resolved}
use Rattle.class_table.specs.declared.table.Resolved.TheVariants.{Span, Truth, Choice, One, Many, Ref, RefSet}
use Rattle.class_table.specs.Outline.{Outline}
use Rattle.object_alloc.specs.declared.object.Cell.{Cell}
use Rattle.object_alloc.specs.Cells.{extent}
use Rattle.config_json.specs.declared.values.FormerValue.{FormerValue}
use Rattle.config_json.specs.declared.values.FormerValue.TheVariants as kept
use Rattle.config_json.specs.Former.{one, truth_number}

-- the object that cell i stands for, where it is one of a reference set
abbrev pub element_at : List Cell → ℕ → Option ℕ
element_at cs i = option_and_then (λ (x : Cell). x.element) (slice_get cs i)

-- for each of these objects whether it is marked
abbrev pub marked : List ℕ → List Bool → List ℤ
marked numbers flags = map (λ n. truth_number (slice_index_or flags n false)) numbers

-- the objects that a leaf of this shape has cells for
abbrev pub member_extent : Outline → Resolved → List ℕ
member_extent o (RefSet c count) = extent o c
member_extent o (Ref c) = []
member_extent o (Span low high) = []
member_extent o Truth = []
member_extent o (Choice e) = []
member_extent o (One c) = []
member_extent o (Many c count) = []

-- the numbers for a leaf's cells
abbrev pub numbers_of : List ℕ → FormerValue → List ℤ
numbers_of members (kept.One v) = one v
numbers_of members (kept.Members flags) = marked members flags.items
