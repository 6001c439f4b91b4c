-- Extents and cells. A leaf gives one cell, and a reference set one for each object that may be its
-- member.
use Rattle.std.specs.Prelude.{ℕ, ◌+◌, ◌<◌, ◌-ℤ◌, cond, List, [], ◌∷◌, Option, None, Some, pos, length, map, slice_get}
use Rattle.std.specs.List.{flat_map}
use Rattle.std.specs.Option.{option_map_or}
use Rattle.class_table.specs.declared.table.Class.{Class}
use Rattle.class_table.specs.declared.table.Enumeration.{Enumeration}
use Rattle.class_table.specs.declared.table.Resolved.{Resolved}
use Rattle.class_table.specs.declared.table.Resolved.TheVariants.{Span, Truth, Choice, One, Many, Ref, RefSet}
use Rattle.class_table.specs.Outline.{Outline, is_a}
use Rattle.object_alloc.specs.declared.object.Cell.{Cell}
use Rattle.object_alloc.specs.declared.object.Domain.{Domain}
use Rattle.object_alloc.specs.declared.object.Domain.TheVariants as domain
use Rattle.object_alloc.specs.declared.object.Leaf.{Leaf}
use Rattle.object_alloc.specs.declared.object.Object.{Object}
use Rattle.object_alloc.specs.Walk.{objects, walk, leaves_in}

-- the numbers of the objects whose class is c or derives from c, where the first has number n
abbrev pub extent_from : List Class → ℕ → ℕ → List Object → List ℕ
extent_from cs c n [] = []
extent_from cs c n (x ∷ xs) =
    cond (is_a cs x.class c) (n ∷ extent_from cs c (n + 1) xs) (extent_from cs c (n + 1) xs)

-- the extent of a class: its objects' numbers, in order
abbrev pub extent : Outline → ℕ → List ℕ
extent o c = extent_from o.classes c 0 (objects o)

-- how many values an enumeration has
abbrev pub value_count : Outline → ℕ → ℕ
value_count o e =
    option_map_or (λ (k : Enumeration). length k.values) (slice_get o.enumerations e) 0

abbrev pub cell : Leaf → Option ℕ → Domain → Cell
cell l element values =
    record { owner = l.owner; attribute = l.attribute; element = element; domain = values }

-- one cell of a reference set for each of these objects: 0 is out, 1 is in
abbrev pub member_cells : Leaf → List ℕ → List Cell
member_cells l numbers = map (λ n. cell l (Some n) (domain.Span (pos 0) (pos 1))) numbers

-- a domain that is an extent is that of one of so many classes
abbrev pub IsDomainOf : ℕ → Domain → Type 0
IsDomainOf classes (domain.Span low high) = Unit {0}
IsDomainOf classes (domain.Extent c) = c < classes

-- the values of the one cell of a leaf of this shape
abbrev pub domain_of : Outline → Resolved → Option Domain
domain_of o (Span low high) = Some (domain.Span low high)
domain_of o Truth = Some (domain.Span (pos 0) (pos 1))
domain_of o (Choice e) = Some (domain.Span (pos 0) (pos (value_count o e) -ℤ pos 1))
domain_of o (Ref c) = Some (domain.Extent c)
domain_of o (RefSet c m) = None
domain_of o (One c) = None
domain_of o (Many c m) = None

-- the cells of a leaf of this shape
abbrev pub shape_cells : Outline → Leaf → Resolved → List Cell
shape_cells o l (Span low high) = cell l None (domain.Span low high) ∷ []
shape_cells o l Truth = cell l None (domain.Span (pos 0) (pos 1)) ∷ []
shape_cells o l (Choice e) = cell l None (domain.Span (pos 0) (pos (value_count o e) -ℤ pos 1)) ∷ []
shape_cells o l (Ref c) = cell l None (domain.Extent c) ∷ []
shape_cells o l (RefSet c m) = member_cells l (extent o c)
shape_cells o l other = []

abbrev pub leaf_cells : Outline → Leaf → List Cell
leaf_cells o l = shape_cells o l l.shape

-- the cells of a model, in the order of its walk
abbrev pub cells : Outline → List Cell
cells o = flat_map (leaf_cells o) (leaves_in (walk o))
