-- Objects by where they are held.
use Rattle.std.specs.Prelude.{◌≡◌, ℕ, ◌<◌, List, Option, Contains}
use Rattle.class_table.specs.declared.table.Resolved.{Resolved}
use Rattle.class_table.specs.declared.table.Resolved.TheVariants.{Span, Truth, Choice, One, Many, Ref, RefSet}
use Rattle.object_alloc.specs.declared.object.Object.{Object}

-- an attribute of this shape has an element i: the one object is element 0
abbrev pub IsElement : Resolved → ℕ → Type 0
IsElement (One c) i = i ≡ 0
IsElement (Many c m) i = i < m
IsElement (Span low high) i = ⊥
IsElement Truth i = ⊥
IsElement (Choice e) i = ⊥
IsElement (Ref c) i = ⊥
IsElement (RefSet c m) i = ⊥

-- object x is element i of attribute k of the owner
abbrev pub IsPart : Option ℕ → ℕ → ℕ → Object → Type 0
IsPart owner k i x = (x.owner ≡ owner) × (x.attribute ≡ k) × (x.element ≡ i)

-- among these objects one is element i of attribute k of the owner
pub record HasPart (xs : List Object) (owner : Option ℕ) (k i : ℕ) : Type 0 where
  pub part : Object
  pub has : Contains xs part
  pub is : IsPart owner k i part
