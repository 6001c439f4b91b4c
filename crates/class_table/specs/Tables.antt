-- What holds of every table, and what its accessors answer.
use Rattle.std.specs.Prelude.{◌≡◌, ℕ, ◌<◌, ◌^◌, Bool, true, false, cond, List, ◌∷◌, ◌++◌, Option, None, Some, length, map, slice_index, slice_index_or, []}
use Rattle.std.specs.List.{list_any}
use Rattle.class_table.specs.declared.names.NameMeaning.{NameMeaning}
use Rattle.class_table.specs.declared.names.NameMeaning.TheVariants as meaning
use Rattle.class_table.specs.declared.table.Class.{Class}
use Rattle.class_table.specs.declared.table.Enumeration.{Enumeration}
use Rattle.class_table.specs.declared.table.Resolved.{Resolved}
use Rattle.class_table.specs.declared.table.Resolved.TheVariants.{Span, Truth, Choice, One, Many, Ref, RefSet}
use Rattle.class_table.specs.declared.table.Variable.{Variable}
use Rattle.graph_walk.specs.declared.walk.State.{State}
use Rattle.graph_walk.specs.Cycles.{rank}
use Rattle.class_table.specs.Names.{means}
use Rattle.class_table.specs.Outline.{Outline, parent_in, attributes, variable_name}
use Rattle.class_table.specs.Same.{same_name}
use Rattle.class_table.specs.Scopes.{Falls, HasParents}

-- the enumeration that a name means
abbrev pub enumeration_meant : Option NameMeaning → Option ℕ
enumeration_meant (Some (meaning.Enumeration e)) = Some e
enumeration_meant (Some (meaning.Class c)) = None
enumeration_meant (Some (meaning.Variable v)) = None
enumeration_meant None = None

-- the top-level variable that a name means
abbrev pub root_meant : Option NameMeaning → Option ℕ
root_meant (Some (meaning.Variable v)) = Some v
root_meant (Some (meaning.Class c)) = None
root_meant (Some (meaning.Enumeration e)) = None
root_meant None = None

abbrev pub IsFew : Enumeration → Type 0
IsFew e = length e.values < 2 ^ 32

-- each of the names differs from those before it
abbrev pub all_differ : List (List ℕ) → List (List ℕ) → Bool
all_differ [] seen = true
all_differ (w ∷ ws) seen = cond (list_any (same_name w) seen) false (all_differ ws (seen ++ w ∷ []))

-- the shape's class is one of n, its enumeration one of m
abbrev pub IsShapeOf : ℕ → ℕ → Resolved → Type 0
IsShapeOf n m (Span low high) = Unit {0}
IsShapeOf n m Truth = Unit {0}
IsShapeOf n m (Choice e) = e < m
IsShapeOf n m (One c) = c < n
IsShapeOf n m (Many c k) = c < n
IsShapeOf n m (Ref c) = c < n
IsShapeOf n m (RefSet c k) = c < n

-- what a name means is one of n classes, m enumerations or r top-level variables
abbrev pub IsMeant : ℕ → ℕ → ℕ → Option NameMeaning → Type 0
IsMeant n m r (Some (meaning.Class c)) = c < n
IsMeant n m r (Some (meaning.Enumeration e)) = e < m
IsMeant n m r (Some (meaning.Variable v)) = v < r
IsMeant n m r None = Unit {0}

-- the shape of variable k of these is one of the outline's
abbrev pub HasShapes : Outline → List Variable → Type 0
HasShapes o vs =
    (k : ℕ) (d : Variable) → k < length vs → IsShapeOf (length o.classes) (length o.enumerations)
    (slice_index_or vs k d).shape

-- each number that stands in an outline is that of a class, an enumeration or a variable of it
pub record IsClosed (o : Outline) : Type 0 where
  pub meant : (w : List ℕ) → IsMeant (length o.classes) (length o.enumerations) (length o.roots)
      (means o.names w)
  pub attributes_have : (c : ℕ) → HasShapes o (attributes o.classes c)
  pub roots_have : HasShapes o o.roots

-- the numbers of attributes are right, their names differ, and each class has a rank above its
-- parent's
pub record IsTable (cs : List Class) (counts : List ℕ) (order : List State) : Type 0 where
  pub parents : HasParents cs
  pub falls : Falls (parent_in cs) (rank order)
  pub below : (c : ℕ) → c < length cs → rank order c < length cs
  pub size : length counts ≡ length cs
  pub counted : (c : ℕ) → c < length cs → slice_index counts c ≡ length (attributes cs c)
  pub differ : (c : ℕ) → c < length cs → all_differ (map variable_name (attributes cs c)) [] ≡ true
