-- What holds of the values of typed expressions: each is of its expression's type, lists no more
-- objects than the expression reaches, and lies in the expression's interval.
use Rattle.std.specs.Prelude.{◌≡◌, ℕ, ◌<◌, ◌≤◌, true, cond, List, [], ◌∷◌, Option, None, Some, ℤ, pos, neg_ℤ, ◌≤ℤ◌, length, slice_get, All, Contains}
use Rattle.model_limits.specs.Limits.{most_width}
use Rattle.class_table.specs.declared.table.Resolved.{Resolved}
use Rattle.class_table.specs.declared.table.Variable.{Variable}
use Rattle.class_table.specs.Outline.{Outline}
use Rattle.conf_syntax.specs.declared.tree.QuantKind.{QuantKind}
use Rattle.conf_types.specs.declared.types.ExprType.{ExprType}
use Rattle.conf_types.specs.declared.types.ExprType.TheVariants as type
use Rattle.conf_types.specs.Trees.{Tree, Filter, Bodies}
use Rattle.conf_types.specs.Typing.{Place, tree_type, filter_fits, bodies_fit}
use Rattle.object_alloc.specs.Cells.{extent, value_count}
use Rattle.object_alloc.specs.Variables.{variables_of}
use Rattle.object_alloc.specs.Own.{IsOwner}
use Rattle.conf_eval.specs.declared.value.Value.{Value}
use Rattle.conf_eval.specs.declared.value.Value.TheVariants.{Int, Truth, Choice, Object, Objects}
use Rattle.conf_eval.specs.Meaning.{Setting, bind, int_of, objects_of, first_of, keeps, values_of, Item, item_of}
use Rattle.conf_limits.specs.declared.interval.Interval.{Interval}
use Rattle.conf_limits.specs.Measures.{narrow, filter_narrow, bodies_narrow}

-- Settings

-- where the place stands in a class, `this` is an object of its extent
abbrev pub IsThis : Outline → Option ℕ → Option ℕ → Type 0
IsThis o None this = Unit {0}
IsThis o (Some c) None = ⊥
IsThis o (Some c) (Some x) = Contains (extent o c) x

-- one object of the extent of each of these classes, in order
abbrev pub AreVars : Outline → List ℕ → List ℕ → Type 0
AreVars o [] [] = Unit {0}
AreVars o [] (x ∷ xs) = ⊥
AreVars o (c ∷ cs) [] = ⊥
AreVars o (c ∷ cs) (x ∷ xs) = Contains (extent o c) x × AreVars o cs xs

-- the setting gives what is named at the place
pub record Fits (o : Outline) (vs : List ℤ) (p : Place) (s : Setting) : Type 0 where
  pub outline : s.outline ≡ o
  pub values : s.values ≡ vs
  pub this : IsThis o p.class s.this
  pub vars : AreVars o p.locals s.vars

-- Expressions that may be evaluated: typed where they stand, in a setting that fits, with narrow
-- numbers

pub record IsEvaluable (o : Outline) (vs : List ℤ) (t : Tree) (s : Setting) : Type 0 where
  pub place : Place
  pub type : ExprType
  pub setting : Fits o vs place s
  pub typed : tree_type o t place ≡ Some type
  pub numbers : narrow o t ≡ true

pub record IsEvaluableFilter (o : Outline) (vs : List ℤ) (f : Filter) (s : Setting) : Type 0 where
  pub place : Place
  pub setting : Fits o vs place s
  pub typed : filter_fits o f place ≡ true
  pub numbers : filter_narrow o f ≡ true

-- the bodies of a quantifier of this kind, from number n on
pub record AreEvaluable (o : Outline) (vs : List ℤ) (q : QuantKind) (n : ℕ) (bs : Bodies) (s : Setting) : Type 0 where
  pub place : Place
  pub setting : Fits o vs place s
  pub typed : bodies_fit o q bs n place ≡ true
  pub numbers : bodies_narrow o bs ≡ true

-- attribute k of the owner, an object or the top level, is a variable of this shape
pub record HasShape (o : Outline) (owner : Option ℕ) (k : ℕ) (s : Resolved) : Type 0 where
  pub variable : Variable
  pub there : IsOwner o owner
  pub is : slice_get (variables_of o owner) k ≡ Some variable
  pub shape : variable.shape ≡ s

-- Types

-- the value is of the type
abbrev pub IsValueOf : Outline → ExprType → Value → Type 0
IsValueOf o type.Int (Int v) = Unit {0}
IsValueOf o type.Truth (Truth b) = Unit {0}
IsValueOf o (type.Choice e) (Choice d k) = (d ≡ e) × (k < value_count o e)
IsValueOf o (type.Object c) (Object x) = Contains (extent o c) x
IsValueOf o (type.Objects c) (Objects xs) = All (Contains (extent o c)) xs
IsValueOf o (type.Class c) (Objects xs) = All (Contains (extent o c)) xs
IsValueOf o t v = ⊥

-- Reach

-- an expression that reaches so many objects, of this type and with this value: an object is
-- reached, and so are all of a list
abbrev pub IsReached : ℕ → ExprType → Value → Type 0
IsReached r (type.Object c) v = 1 ≤ r
IsReached r (type.Objects c) v = length (objects_of v) ≤ r
IsReached r (type.Class c) v = length (objects_of v) ≤ r
IsReached r type.Int v = Unit {0}
IsReached r type.Truth v = Unit {0}
IsReached r (type.Choice e) v = Unit {0}

-- Intervals

pub record IsWithin (i : Interval) (v : ℤ) : Type 0 where
  pub low : i.low ≤ℤ v
  pub high : v ≤ℤ i.high

-- the number is no further from 0 than the limit
pub record IsNarrow (v : ℤ) : Type 0 where
  pub low : neg_ℤ (pos most_width) ≤ℤ v
  pub high : v ≤ℤ pos most_width

-- Quantifiers, member by member

-- the number that a member adds to a sum: that of the first body, or 0 where the filter leaves it
-- out
abbrev pub term : Filter → Bodies → Setting → ℕ → ℤ
term f bs s x = cond (keeps f (bind s x)) (int_of (first_of (values_of bs (bind s x)))) (pos 0)

-- the item that a member packs
abbrev pub packed : Bodies → Setting → ℕ → Item
packed bs s x = item_of (values_of bs (bind s x))
