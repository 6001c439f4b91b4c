-- The walk of a model's containment: the objects and the leaves of a model in their order, depth
-- first. At the top level the variables stand in order of declaration, and behind each object that
-- is made stand its attributes in their order.
use Rattle.std.specs.Prelude.{ℕ, zero, suc, ◌+◌, List, [], ◌∷◌, ◌++◌, None, Some, length}
use Rattle.std.specs.List.{flat_map}
use Rattle.class_table.specs.declared.table.Resolved.{Resolved}
use Rattle.class_table.specs.declared.table.Resolved.TheVariants.{Span, Truth, Choice, One, Many, Ref, RefSet}
use Rattle.class_table.specs.declared.table.Variable.{Variable}
use Rattle.class_table.specs.Outline.{Outline, attributes}
pub use Rattle.object_alloc.specs.declared.object.Inside.{Inside}
use Rattle.object_alloc.specs.declared.object.Leaf.{Leaf}
use Rattle.object_alloc.specs.declared.object.Object.{Object}

-- what the walk meets: an object, or a leaf
pub data Met : Type 0 where
  Made : Object → Met
  Passed : Leaf → Met

abbrev pub object_met : Met → List Object
object_met (Made x) = x ∷ []
object_met (Passed l) = []

abbrev pub leaf_met : Met → List Leaf
leaf_met (Made x) = []
leaf_met (Passed l) = l ∷ []

abbrev pub objects_in : List Met → List Object
objects_in ms = flat_map object_met ms

abbrev pub leaves_in : List Met → List Leaf
leaves_in ms = flat_map leaf_met ms

-- how many objects were met
abbrev pub made : List Met → ℕ
made ms = length (objects_in ms)

-- an object, with its number, and all that is in it
abbrev pub Visit : Type 0
Visit = ℕ → Object → List Met

abbrev pub object : Inside → ℕ → ℕ → ℕ → Object
object w k c i =
    record { class = c; depth = w.depth + 1; owner = w.owner; attribute = k; element = i }

abbrev pub leaf : Inside → ℕ → Resolved → Leaf
leaf w k s = record { owner = w.owner; attribute = k; shape = s }

-- so many objects of class c, the elements of attribute k from number i on; n is the next object's
-- number
abbrev pub elements : Visit → Inside → ℕ → ℕ → ℕ → ℕ → ℕ → List Met
elements visit w k c zero i n = []
elements visit w k c (suc m) i n =
    let here = visit n (object w k c i) in
    here ++ elements visit w k c m (i + 1) (n + made here)

-- attribute k, of this shape
abbrev pub attribute : Visit → Inside → ℕ → Resolved → ℕ → List Met
attribute visit w k (One c) n = visit n (object w k c 0)
attribute visit w k (Many c m) n = elements visit w k c m 0 n
attribute visit w k s n = Passed (leaf w k s) ∷ []

-- the attributes from number k on
abbrev pub members : Visit → Inside → ℕ → List Variable → ℕ → List Met
members visit w k [] n = []
members visit w k (v ∷ vs) n =
    let here = attribute visit w k v.shape n in
    here ++ members visit w (k + 1) vs (n + made here)

-- in an object
abbrev pub within : ℕ → Object → Inside
within n x = record { owner = Some n; depth = x.depth }

abbrev pub top : Inside
top = record { owner = None; depth = 0 }

-- an object and all that is in it, at most so many further levels
abbrev pub visit_to : Outline → ℕ → Visit
visit_to o zero n x = Made x ∷ []
visit_to o (suc levels) n x =
    Made x ∷ members (visit_to o levels) (within n x) 0 (attributes o.classes x.class) (n + 1)

-- an object and all that is in it: no object contains one of its own class, so there are no more
-- levels than classes
abbrev pub visit : Outline → Visit
visit o = visit_to o (length o.classes)

-- all that a model's walk meets
abbrev pub walk : Outline → List Met
walk o = members (visit o) top 0 o.roots 0

-- the objects of a model, in order
abbrev pub objects : Outline → List Object
objects o = objects_in (walk o)
