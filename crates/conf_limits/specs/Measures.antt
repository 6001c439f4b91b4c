-- How much an expression may cost and how large its numbers may be: reach, weight and interval,
-- functions of the source alone.
use Rattle.std.specs.Prelude.{ℕ, zero, suc, ◌+◌, ◌*◌, Bool, true, false, ◌&&◌, cond, List, Option, ℤ, pos, ◌+ℤ◌, ◌-ℤ◌, ◌*ℤ◌, neg_ℤ, int_le, length, min, sum_by}
use Rattle.std.specs.List.{list_all}
use Rattle.std.specs.Option.{option_map_or}
use Rattle.std.specs.Int.{int_min, int_max}
use Rattle.model_limits.specs.Limits.{most_width}
use Rattle.class_table.specs.declared.table.Resolved.{Resolved}
use Rattle.class_table.specs.declared.table.Resolved.TheVariants as shape
use Rattle.class_table.specs.Outline.{Outline}
use Rattle.conf_syntax.specs.declared.tree.Op.{Op}
use Rattle.conf_syntax.specs.declared.tree.Op.TheVariants as op
use Rattle.conf_syntax.specs.declared.tree.QuantKind.{QuantKind}
use Rattle.conf_syntax.specs.declared.tree.QuantKind.TheVariants as kind
use Rattle.conf_types.specs.declared.operators.OpClass.{OpClass}
use Rattle.conf_types.specs.declared.operators.OpClass.TheVariants.{Logic, Equality, Order, Member, Sum, Product}
use Rattle.conf_types.specs.Operators.{class_of}
use Rattle.conf_types.specs.Programs.{ResolvedConstraint, ResolvedGoal}
use Rattle.conf_types.specs.Trees.{Tree, Filter, NoFilter, Where, Bodies, NoBody, Body}
use Rattle.conf_types.specs.Trees as tree
use Rattle.object_alloc.specs.Cells.{extent}
pub use Rattle.conf_limits.specs.declared.interval.Interval.{Interval}

-- Reach: how many objects an expression may be, or how many items its list may have

-- the reach of an attribute of something with reach r
abbrev pub shape_reach : Outline → ℕ → Resolved → ℕ
shape_reach o r (shape.One c) = r
shape_reach o r (shape.Many c n) = r * n
shape_reach o r (shape.Ref c) = length (extent o c)
shape_reach o r (shape.RefSet c n) = length (extent o c)
shape_reach o r other = 0

abbrev pub reach : Outline → Tree → ℕ
reach o (tree.This at) = 1
reach o (tree.Local at k) = 1
reach o (tree.Own at k s) = shape_reach o 1 s
reach o (tree.Root at k s) = shape_reach o 1 s
reach o (tree.Dot at e k s) = shape_reach o (reach o e) s
reach o (tree.Class at c) = length (extent o c)
reach o (tree.Paren at e) = reach o e
reach o other = 0

-- Weight

-- an object or a list of objects: what has such a type has no other form
abbrev pub shape_is_object : Resolved → Bool
shape_is_object (shape.Span low high) = false
shape_is_object shape.Truth = false
shape_is_object (shape.Choice e) = false
shape_is_object other = true

abbrev pub is_object : Tree → Bool
is_object (tree.This at) = true
is_object (tree.Local at k) = true
is_object (tree.Own at k s) = shape_is_object s
is_object (tree.Root at k s) = shape_is_object s
is_object (tree.Dot at e k s) = shape_is_object s
is_object (tree.Class at c) = true
is_object (tree.Paren at e) = is_object e
is_object other = false

-- the classes that look at the lesser reach: equality on objects, and `in`
abbrev pub looked_at_by : OpClass → Bool → Bool
looked_at_by Equality objects = objects
looked_at_by Member objects = true
looked_at_by other objects = false

-- a quantifier over something of reach r, which weighs so much, with a filter and bodies that weigh
-- so much
abbrev pub quantifier_weight : QuantKind → ℕ → ℕ → ℕ → ℕ → ℕ
quantifier_weight kind.AllDifferent r over filter bodies =
    1 + r * (1 + over + filter + bodies) + r * r
quantifier_weight kind.Pack r over filter bodies =
    1 + r * (1 + over + filter + bodies) + 3 * (r * r)
quantifier_weight other r over filter bodies = 1 + r * (1 + over + filter + bodies)

abbrev mutual
  pub weight : Outline → Tree → ℕ
  weight o (tree.Number at n) = 1
  weight o (tree.Truth at b) = 1
  weight o (tree.This at) = 1
  weight o (tree.Local at k) = 1
  weight o (tree.Root at k s) = 1
  weight o (tree.Value at e k) = 1
  weight o (tree.Class at c) = 1
  weight o (tree.Own at k s) = 3
  weight o (tree.Dot at e k s) = weight o e + reach o e + 1
  weight o (tree.Paren at e) = weight o e + 1
  weight o (tree.Minus at e) = weight o e + 1
  weight o (tree.Not at e) = weight o e + 1
  weight o (tree.Pair at op l r) = weight o l + weight o r
      + cond (looked_at_by (class_of op) (is_object l)) (min (reach o l) (reach o r)) 0 + 1
  weight o (tree.Quant at q over f bs) = quantifier_weight q (reach o over) (weight o over)
      (filter_weight o f) (bodies_weight o bs)
  weight o (tree.Missing at) = 0

  pub filter_weight : Outline → Filter → ℕ
  filter_weight o NoFilter = 0
  filter_weight o (Where e) = weight o e

  pub bodies_weight : Outline → Bodies → ℕ
  bodies_weight o NoBody = 0
  bodies_weight o (Body e bs) = weight o e + bodies_weight o bs

-- for how many objects a constraint is stated
abbrev pub times_stated : Outline → Option ℕ → ℕ
times_stated o class = option_map_or (λ c. length (extent o c)) class 1

abbrev pub constraint_weight : Outline → ResolvedConstraint → ℕ
constraint_weight o k = times_stated o k.class * weight o k.tree

abbrev pub goal_weight : Outline → ResolvedGoal → ℕ
goal_weight o g = weight o g.tree

abbrev pub model_weight : Outline → List ResolvedConstraint → List ResolvedGoal → ℕ
model_weight o ks gs = sum_by (constraint_weight o) ks + sum_by (goal_weight o) gs

-- Intervals

abbrev pub between : ℤ → ℤ → Interval
between a b = record { low = a; high = b }

abbrev pub none : Interval
none = between (pos 0) (pos 0)

abbrev pub shape_interval : Resolved → Interval
shape_interval (shape.Span low high) = between low high
shape_interval other = none

-- the products of the ends
abbrev pub times : Interval → Interval → Interval
times i j = between
    (int_min (int_min (i.low *ℤ j.low) (i.low *ℤ j.high))
    (int_min (i.high *ℤ j.low) (i.high *ℤ j.high)))
    (int_max (int_max (i.low *ℤ j.low) (i.low *ℤ j.high))
    (int_max (i.high *ℤ j.low) (i.high *ℤ j.high)))

-- so many numbers of the interval, each of which may be left out
abbrev pub many : ℕ → Interval → Interval
many r i = between (pos r *ℤ int_min i.low (pos 0)) (pos r *ℤ int_max i.high (pos 0))

abbrev pub operator_interval : Op → Interval → Interval → Interval
operator_interval op.Add i j = between (i.low +ℤ j.low) (i.high +ℤ j.high)
operator_interval op.Sub i j = between (i.low -ℤ j.high) (i.high -ℤ j.low)
operator_interval op.Mul i j = times i j
operator_interval op i j = none

-- of `sum` and `count`, and for `pack` the sum of all sizes: the interval of a quantifier over
-- something of reach r, by those of its first two bodies
abbrev pub quantifier_interval : QuantKind → ℕ → Interval → Interval → Interval
quantifier_interval kind.Sum r first second = many r first
quantifier_interval kind.Count r first second = between (pos 0) (pos r)
quantifier_interval kind.Pack r first second = many r second
quantifier_interval other r first second = none

-- the interval of an Int expression; what isn't Int has [0, 0], but for `pack` that of its sizes'
-- sum
abbrev mutual
  pub interval : Outline → Tree → Interval
  interval o (tree.Number at n) = between (pos n) (pos n)
  interval o (tree.Own at k s) = shape_interval s
  interval o (tree.Root at k s) = shape_interval s
  interval o (tree.Dot at e k s) = shape_interval s
  interval o (tree.Paren at e) = interval o e
  interval o (tree.Minus at e) = between (neg_ℤ (interval o e).high) (neg_ℤ (interval o e).low)
  interval o (tree.Pair at op l r) = operator_interval op (interval o l) (interval o r)
  interval o (tree.Quant at q over f bs) = quantifier_interval q (reach o over)
      (body_interval o bs 0) (body_interval o bs 1)
  interval o (tree.Truth at b) = none
  interval o (tree.This at) = none
  interval o (tree.Not at e) = none
  interval o (tree.Local at k) = none
  interval o (tree.Value at e k) = none
  interval o (tree.Class at c) = none
  interval o (tree.Missing at) = none

  -- that of body number k
  pub body_interval : Outline → Bodies → ℕ → Interval
  body_interval o NoBody k = none
  body_interval o (Body e bs) zero = interval o e
  body_interval o (Body e bs) (suc k) = body_interval o bs k

-- the number is no further from 0 than the limit
abbrev pub is_near : ℤ → Bool
is_near v = int_le (neg_ℤ (pos most_width)) v && int_le v (pos most_width)

-- the ends are, and so is all that lies between them
abbrev pub is_narrow : Interval → Bool
is_narrow i = is_near i.low && is_near i.high

-- the intervals of an expression and of all that stands in it are narrow
abbrev mutual
  pub narrow : Outline → Tree → Bool
  narrow o (tree.Number at n) = is_narrow (interval o (tree.Number at n))
  narrow o (tree.Own at k s) = is_narrow (shape_interval s)
  narrow o (tree.Root at k s) = is_narrow (shape_interval s)
  narrow o (tree.Dot at e k s) = narrow o e && is_narrow (shape_interval s)
  narrow o (tree.Paren at e) = narrow o e
  narrow o (tree.Minus at e) = narrow o e && is_narrow (interval o (tree.Minus at e))
  narrow o (tree.Not at e) = narrow o e
  narrow o (tree.Pair at op l r) = (narrow o l && narrow o r)
      && is_narrow (interval o (tree.Pair at op l r))
  narrow o (tree.Quant at q over f bs) = (narrow o over
      && (filter_narrow o f && bodies_narrow o bs))
      && is_narrow (interval o (tree.Quant at q over f bs))
  narrow o (tree.Truth at b) = true
  narrow o (tree.This at) = true
  narrow o (tree.Local at k) = true
  narrow o (tree.Value at e k) = true
  narrow o (tree.Class at c) = true
  narrow o (tree.Missing at) = true

  pub filter_narrow : Outline → Filter → Bool
  filter_narrow o NoFilter = true
  filter_narrow o (Where e) = narrow o e

  pub bodies_narrow : Outline → Bodies → Bool
  bodies_narrow o NoBody = true
  bodies_narrow o (Body e bs) = narrow o e && bodies_narrow o bs

abbrev pub constraint_narrow : Outline → ResolvedConstraint → Bool
constraint_narrow o k = narrow o k.tree

abbrev pub goal_narrow : Outline → ResolvedGoal → Bool
goal_narrow o g = narrow o g.tree

abbrev pub model_narrow : Outline → List ResolvedConstraint → List ResolvedGoal → Bool
model_narrow o ks gs = list_all (constraint_narrow o) ks && list_all (goal_narrow o) gs
