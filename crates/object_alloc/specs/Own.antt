-- What the parts and the cells of an attribute are: those that its shape asks for, in order, and no
-- others.
use Rattle.std.specs.Prelude.{◌≡◌, ℕ, zero, suc, ◌+◌, ◌<◌, List, [], ◌∷◌, Option, None, Some, IfSome, length, map, slice_get, pos}
use Rattle.std.specs.Option.{option_map_or}
use Rattle.class_table.specs.declared.table.Resolved.{Resolved}
use Rattle.class_table.specs.declared.table.Resolved.TheVariants.{Span, Truth, Choice, One, Many, Ref, RefSet}
use Rattle.class_table.specs.Outline.{Outline}
use Rattle.object_alloc.specs.declared.object.Cell.{Cell}
use Rattle.object_alloc.specs.declared.object.Domain.{Domain}
use Rattle.object_alloc.specs.declared.object.Domain.TheVariants as domain
use Rattle.object_alloc.specs.declared.object.Object.{Object}
use Rattle.object_alloc.specs.Cells.{cells, extent, leaf_cells}
use Rattle.object_alloc.specs.Groups.{parts_of, own_cells}
use Rattle.object_alloc.specs.Parts.{IsPart}
use Rattle.object_alloc.specs.Walk.{Inside, object, leaf, objects}

-- the depth of an object, by its number; 0 for the top level
abbrev pub depth_in : List Object → Option ℕ → ℕ
depth_in xs None = 0
depth_in xs (Some n) = option_map_or (λ (x : Object). x.depth) (slice_get xs n) 0

-- where the walk stands while it lists the attributes of this object, or the variables of the top
-- level
abbrev pub inside_of : Outline → Option ℕ → Inside
inside_of o owner = record { owner = owner; depth = depth_in (objects o) owner }

-- the owner is an object, or the top level
abbrev pub IsOwner : Outline → Option ℕ → Type 0
IsOwner o owner = IfSome owner (λ n. n < length (objects o))

-- so many objects of class c, the elements of attribute k from number i on
abbrev pub held_from : Inside → ℕ → ℕ → ℕ → ℕ → List Object
held_from w k c zero i = []
held_from w k c (suc m) i = object w k c i ∷ held_from w k c m (i + 1)

-- the objects that attribute k of this shape holds
abbrev pub held : Inside → ℕ → Resolved → List Object
held w k (One c) = object w k c 0 ∷ []
held w k (Many c m) = held_from w k c m 0
held w k (Span low high) = []
held w k Truth = []
held w k (Choice e) = []
held w k (Ref c) = []
held w k (RefSet c m) = []

-- how many objects a variable of this shape holds
abbrev pub held_count : Resolved → ℕ
held_count (One c) = 1
held_count (Many c m) = m
held_count (Span low high) = 0
held_count Truth = 0
held_count (Choice e) = 0
held_count (Ref c) = 0
held_count (RefSet c m) = 0

-- the objects and the cells of attribute k of the owner are those of this shape, in order
pub record IsOwned (o : Outline) (owner : Option ℕ) (k : ℕ) (s : Resolved) : Type 0 where
  pub parts : map (λ n. slice_get (objects o) n) (parts_of o owner k)
      ≡ map Some (held (inside_of o owner) k s)
  pub cells : map (λ i. slice_get (cells o) i) (own_cells o owner k)
      ≡ map Some (leaf_cells o (leaf (inside_of o owner) k s))

-- n is the number of an object of class c
pub record IsObjectOf (o : Outline) (c n : ℕ) : Type 0 where
  pub object : Object
  pub has : slice_get (objects o) n ≡ Some object
  pub there : n < length (objects o)
  pub class_is : object.class ≡ c

-- n is the number of an object of class c, which is element i of attribute k of the owner
pub record IsPartOf (o : Outline) (owner : Option ℕ) (k i c n : ℕ) : Type 0 where
  pub object : Object
  pub has : slice_get (objects o) n ≡ Some object
  pub there : n < length (objects o)
  pub class_is : object.class ≡ c
  pub is : IsPart owner k i object

-- attribute k of the owner holds one object, of class c
pub record HasOnePart (o : Outline) (owner : Option ℕ) (k c : ℕ) : Type 0 where
  pub number : ℕ
  pub parts : parts_of o owner k ≡ number ∷ []
  pub is : IsPartOf o owner k 0 c number

-- attribute k of the owner has one cell, with these values
pub record HasOneCell (o : Outline) (owner : Option ℕ) (k : ℕ) (values : Domain) : Type 0 where
  pub number : ℕ
  pub own : own_cells o owner k ≡ number ∷ []
  pub is : slice_get (cells o) number
      ≡ Some (record { owner = owner; attribute = k; element = None; domain = values })

-- the cell of attribute k of the owner that says whether object n is a member
abbrev pub member_cell : Option ℕ → ℕ → ℕ → Cell
member_cell owner k n =
    record { owner = owner; attribute = k; element = Some n; domain = domain.Span (pos 0) (pos 1) }

-- attribute k of the owner has a cell for each object of the extent of class c, in order
abbrev pub HasMemberCells : Outline → Option ℕ → ℕ → ℕ → Type 0
HasMemberCells o owner k c =
    map (λ i. slice_get (cells o) i) (own_cells o owner k)
    ≡ map Some (map (member_cell owner k) (extent o c))
