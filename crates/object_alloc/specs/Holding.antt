-- The shapes of attributes that hold objects, listed for each class.
use Rattle.std.specs.Prelude.{◌≡◌, ℕ, List, Option, None, Some, slice_index_or}
use Rattle.std.specs.List.{flat_map}
use Rattle.std.specs.declared.vec.Vec.{Vec}
use Rattle.class_table.specs.declared.table.Resolved.{Resolved}
use Rattle.class_table.specs.Outline.{Outline, attributes}
use Rattle.object_alloc.specs.declared.queue.Kind.{Kind}
use Rattle.object_alloc.specs.Sums.{held_kinds, kinds_of}

-- the objects that attributes of these shapes hold, at this depth
abbrev pub kinds_in : ℕ → List Resolved → List Kind
kinds_in d shapes = flat_map (held_kinds d) shapes

-- attributes of these shapes hold what those of class c do
abbrev pub HoldsSame : Outline → ℕ → List Resolved → Type 0
HoldsSame o c shapes = (d : ℕ) → kinds_in d shapes ≡ kinds_of d (attributes o.classes c)

-- the list of a class, where it has one
abbrev pub shapes_of : {A : Type 0} → List (Option (Vec Resolved A)) → ℕ → Option (Vec Resolved A)
shapes_of lists c = slice_index_or lists c None

-- each list holds what its class does
abbrev pub AreHolding : {A : Type 0} → Outline → List (Option (Vec Resolved A)) → Type 0
AreHolding {A} o lists =
    (c : ℕ) (shapes : Vec Resolved A) → shapes_of lists c ≡ Some shapes
    → HoldsSame o c shapes.items
