-- Reach, weight and interval as they are counted: in one walk of an expression, and exactly only as
-- far as a limit may ask.
use Rattle.std.specs.Prelude.{◌≡◌, ℕ, ◌+◌, ◌*◌, ◌<◌, ◌≤◌, Bool, true, false, cond, List, Option, None, Some, length, min, IfSome}
use Rattle.model_limits.specs.Limits.{most_weight, most_width}
use Rattle.class_table.specs.Outline.{Outline}
use Rattle.class_table.specs.Tables.{IsShapeOf}
use Rattle.class_table.specs.declared.table.Resolved.{Resolved}
use Rattle.conf_syntax.specs.declared.tree.Op.{Op}
use Rattle.conf_syntax.specs.declared.tree.QuantKind.{QuantKind}
use Rattle.conf_syntax.specs.declared.tree.QuantKind.TheVariants as kind
use Rattle.conf_types.specs.Programs.{ResolvedConstraint, ResolvedGoal}
use Rattle.conf_types.specs.Trees.{Tree, Filter, NoFilter, Where, Bodies, NoBody, Body}
use Rattle.conf_types.specs.Trees as tree
use Rattle.conf_limits.specs.declared.limit.LimitFault.{LimitFault}
use Rattle.conf_limits.specs.declared.limit.Measured.{Measured}
use Rattle.conf_limits.specs.declared.limit.LimitFault.TheVariants.{TooHeavy, TooWide}
use Rattle.conf_limits.specs.declared.measure.Measure.{Measure}
use Rattle.conf_limits.specs.declared.measure.Bodies.{Bodies as BodiesMeasure}
use Rattle.conf_limits.specs.declared.measure.Filter.{Filter as FilterMeasure}
use Rattle.conf_limits.specs.Measures.{Interval, reach, weight, filter_weight, bodies_weight, is_object, interval, body_interval, is_narrow, narrow, filter_narrow, bodies_narrow, operator_interval, model_weight, model_narrow}

-- The limits

pub record IsWithinMeasures (o : Outline) (ks : List ResolvedConstraint) (gs : List ResolvedGoal) : Type 0 where
  pub weight : model_weight o ks gs ≤ most_weight
  pub narrow : model_narrow o ks gs ≡ true

-- why a model is refused: the first limit in this order that it breaks
abbrev pub IsLimitRefused : Outline → List ResolvedConstraint → List ResolvedGoal → LimitFault
    → Type 0
IsLimitRefused o ks gs TooHeavy = most_weight < model_weight o ks gs
IsLimitRefused o ks gs TooWide =
    (model_weight o ks gs ≤ most_weight) × (model_narrow o ks gs ≡ false)

-- What stands in an expression

abbrev pub IsShapeThere : Outline → Resolved → Type 0
IsShapeThere o s = IsShapeOf (length o.classes) (length o.enumerations) s

-- the classes and the shapes that stand in an expression are of the outline
abbrev mutual
  pub IsThere : Outline → Tree → Type 0
  IsThere o (tree.Own at k s) = IsShapeThere o s
  IsThere o (tree.Root at k s) = IsShapeThere o s
  IsThere o (tree.Dot at e k s) = IsThere o e × IsShapeThere o s
  IsThere o (tree.Class at c) = c < length o.classes
  IsThere o (tree.Paren at e) = IsThere o e
  IsThere o (tree.Minus at e) = IsThere o e
  IsThere o (tree.Not at e) = IsThere o e
  IsThere o (tree.Pair at op l r) = IsThere o l × IsThere o r
  IsThere o (tree.Quant at q over f bs) = IsThere o over × (IsFilterThere o f × AreBodiesThere o bs)
  IsThere o (tree.Number at n) = Unit {0}
  IsThere o (tree.Truth at b) = Unit {0}
  IsThere o (tree.This at) = Unit {0}
  IsThere o (tree.Local at k) = Unit {0}
  IsThere o (tree.Value at e k) = Unit {0}
  IsThere o (tree.Missing at) = Unit {0}

  pub IsFilterThere : Outline → Filter → Type 0
  IsFilterThere o NoFilter = Unit {0}
  IsFilterThere o (Where e) = IsThere o e

  pub AreBodiesThere : Outline → Bodies → Type 0
  AreBodiesThere o NoBody = Unit {0}
  AreBodiesThere o (Body e bs) = IsThere o e × AreBodiesThere o bs

pub record IsConstraintThere (o : Outline) (k : ResolvedConstraint) : Type 0 where
  pub class : IfSome k.class (λ c. c < length o.classes)
  pub tree : IsThere o k.tree

abbrev pub IsGoalThere : Outline → ResolvedGoal → Type 0
IsGoalThere o g = IsThere o g.tree

-- how many nodes an expression has
abbrev mutual
  pub size : Tree → ℕ
  size (tree.Number at n) = 1
  size (tree.Truth at b) = 1
  size (tree.This at) = 1
  size (tree.Local at k) = 1
  size (tree.Own at k s) = 1
  size (tree.Root at k s) = 1
  size (tree.Value at e k) = 1
  size (tree.Class at c) = 1
  size (tree.Missing at) = 1
  size (tree.Dot at e k s) = 1 + size e
  size (tree.Paren at e) = 1 + size e
  size (tree.Minus at e) = 1 + size e
  size (tree.Not at e) = 1 + size e
  size (tree.Pair at op l r) = 1 + (size l + size r)
  size (tree.Quant at q over f bs) = 1 + (size over + (filter_size f + bodies_size bs))

  pub filter_size : Filter → ℕ
  filter_size NoFilter = 0
  filter_size (Where e) = size e

  pub bodies_size : Bodies → ℕ
  bodies_size NoBody = 0
  bodies_size (Body e bs) = size e + bodies_size bs

-- Counting

-- twice the limit on width, which is above each limit
abbrev pub most : ℕ
most = 2 * most_width

-- a number is counted up to there, and all above it are one
abbrev pub capped : ℕ → ℕ
capped n = min n most

-- an interval, where a test says so
abbrev pub kept : Bool → Interval → Option Interval
kept b i = cond b (Some i) None

abbrev pub narrowed : Interval → Option Interval
narrowed i = kept (is_narrow i) i

abbrev pub operated : Op → Option Interval → Option Interval → Option Interval
operated op None y = None
operated op (Some i) None = None
operated op (Some i) (Some j) = narrowed (operator_interval op i j)

-- the second interval where it is the wanted one, else the first; none where one is missing
abbrev pub chosen : Bool → Option Interval → Option Interval → Option Interval
chosen b None y = None
chosen b (Some i) None = None
chosen b (Some i) (Some j) = Some (cond b j i)

-- the number of the body whose interval a quantifier asks for
abbrev pub summed : QuantKind → ℕ
summed kind.Pack = 1
summed kind.Forall = 0
summed kind.Exists = 0
summed kind.Sum = 0
summed kind.Count = 0
summed kind.AllDifferent = 0

-- what is measured of an expression: the interval is there where it and those of all that stands in
-- the expression are narrow
pub record IsMeasure (m : Measure) (o : Outline) (t : Tree) : Type 0 where
  pub reach_is : m.reach ≡ capped (reach o t)
  pub weight_is : m.weight ≡ capped (weight o t)
  pub objects_are : m.objects ≡ is_object t
  pub interval_is : m.interval ≡ kept (narrow o t) (interval o t)

pub record IsFilterMeasure (m : FilterMeasure) (o : Outline) (f : Filter) : Type 0 where
  pub weight_is : m.weight ≡ capped (filter_weight o f)
  pub narrow_is : m.narrow ≡ filter_narrow o f

-- of bodies the interval of number k
pub record IsBodiesMeasure (m : BodiesMeasure) (o : Outline) (k : ℕ) (bs : Bodies) : Type 0 where
  pub weight_is : m.weight ≡ capped (bodies_weight o bs)
  pub interval_is : m.interval ≡ kept (bodies_narrow o bs) (body_interval o bs k)

-- what is measured of some constraints or objectives
pub record IsTotal (m : Measured) (weight : ℕ) (narrow : Bool) : Type 0 where
  pub weight_is : m.weight ≡ capped weight
  pub narrow_is : m.narrow ≡ narrow
