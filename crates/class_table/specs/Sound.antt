-- What holds of the outline of every model whose declarations have no fault.
use Rattle.std.specs.Prelude.{◌≡◌, ℕ, ◌<◌, true, List, [], Option, None, Some, length, map, Contains}
use Rattle.class_table.specs.declared.table.Class.{Class}
use Rattle.class_table.specs.declared.table.Resolved.{Resolved}
use Rattle.class_table.specs.declared.table.Resolved.TheVariants.{Span, Truth, Choice, One, Many, Ref, RefSet}
use Rattle.class_table.specs.declared.table.Variable.{Variable}
use Rattle.class_table.specs.Named.{IsNamed}
use Rattle.class_table.specs.Outline.{Outline, attributes, variable_name}
use Rattle.class_table.specs.Scopes.{HasParents, HasRanks}
use Rattle.class_table.specs.Tables.{IsClosed, all_differ}

-- the class of the objects that a variable of this shape holds
abbrev pub held_class : Resolved → Option ℕ
held_class (Span low high) = None
held_class Truth = None
held_class (Choice e) = None
held_class (One c) = Some c
held_class (Many c n) = Some c
held_class (Ref c) = None
held_class (RefSet c n) = None

-- there are ranks, less than the number of classes, that fall from each class to the classes that
-- its attributes hold
pub record HasNesting (cs : List Class) : Type 0 where
  pub rank : ℕ → ℕ
  pub below : (c : ℕ) → c < length cs → rank c < length cs
  pub falls : (c d : ℕ) (v : Variable) → Contains (attributes cs c) v → held_class v.shape ≡ Some d
      → rank d < rank c

pub record IsSound (o : Outline) : Type 0 where
  pub parents : HasParents o.classes
  pub ranks : HasRanks o.classes
  pub nesting : HasNesting o.classes
  pub differ : (c : ℕ) → c < length o.classes
      → all_differ (map variable_name (attributes o.classes c)) [] ≡ true
  pub closed : IsClosed o
  pub named : IsNamed o
