-- The constraints and objectives of a model, and the faults that stand in them.
use Rattle.std.specs.Prelude.{ℕ, ◌+◌, Bool, List, [], ◌∷◌, ◌++◌, Option, None, Some, map, slice_index_or}
use Rattle.std.specs.List.{flat_map}
use Rattle.class_table.specs.Outline.{Outline}
use Rattle.conf_syntax.specs.declared.tree.Expr.{Expr}
use Rattle.conf_syntax.specs.declared.tree.GoalDecl.{GoalDecl}
use Rattle.conf_syntax.specs.declared.tree.Item.{Item}
use Rattle.conf_syntax.specs.declared.tree.Item.TheVariants as item
use Rattle.conf_syntax.specs.declared.tree.Member.{Member}
use Rattle.conf_syntax.specs.declared.tree.Member.TheVariants as member
use Rattle.conf_types.specs.declared.fault.TypeFault.{TypeFault}
use Rattle.conf_types.specs.declared.fault.TypeFault.TheVariants.{Memory}
use Rattle.conf_types.specs.declared.types.Need.TheVariants as need
use Rattle.conf_types.specs.Readings.{Reading, read, needed}
pub use Rattle.conf_types.specs.Resolved.{ResolvedConstraint, ResolvedGoal}
use Rattle.conf_types.specs.Scopes.{Scope}
use Rattle.conf_types.specs.Trees.{Missing}

-- a constraint as it is stated: the class for whose objects, or none at the top level, and its
-- expression
pub record Stated : Type 0 where
  pub class : Option ℕ
  pub expr : Expr

abbrev pub stated : Option ℕ → Expr → Stated
stated c e = record { class = c; expr = e }

abbrev pub member_exprs : Member → List Expr
member_exprs (member.Var v) = []
member_exprs (member.Where w) = w.list

-- the constraints of an item, in order of place; a class has the number c
abbrev pub item_constraints : Item → ℕ → List Stated
item_constraints (item.Class d) c = map (stated (Some c)) (flat_map member_exprs d.members)
item_constraints (item.Where w) c = map (stated None) w.list
item_constraints other c = []

-- the number of the next class, behind an item
abbrev pub next_class : Item → ℕ → ℕ
next_class (item.Class d) c = c + 1
next_class other c = c

-- the constraints of the items; the next class has the number c
abbrev pub constraints_from : List Item → ℕ → List Stated
constraints_from [] c = []
constraints_from (i ∷ is) c = item_constraints i c ++ constraints_from is (next_class i c)

-- the constraints of a model, in order of place
abbrev pub constraints : List Item → List Stated
constraints items = constraints_from items 0

abbrev pub item_goal : Item → List GoalDecl
item_goal (item.Goal g) = g ∷ []
item_goal other = []

-- the objectives, in order of place
abbrev pub goals : List Item → List GoalDecl
goals items = flat_map item_goal items

-- no quantifier stands round an expression
abbrev pub outside : Option ℕ → Scope
outside c = record { class = c; locals = [] }

abbrev pub constraint_reading : Outline → Stated → Reading
constraint_reading o k = read o (outside k.class) k.expr

abbrev pub goal_reading : Outline → GoalDecl → Reading
goal_reading o g = read o (outside None) g.expr

-- a constraint is Bool, an objective Int
abbrev pub constraint_faults : Outline → Stated → List TypeFault
constraint_faults o k = needed need.Truth (constraint_reading o k)

abbrev pub goal_faults : Outline → GoalDecl → List TypeFault
goal_faults o g = needed need.Int (goal_reading o g)

-- the faults that stand in the expressions of a model
abbrev pub faults : Outline → List Item → List TypeFault
faults o items =
    flat_map (constraint_faults o) (constraints items) ++ flat_map (goal_faults o) (goals items)

-- what is read, for a class's objects: the place is that of the expression's first token
abbrev pub stated_for : Option ℕ → Reading → ResolvedConstraint
stated_for c r = record { class = c; place = r.first; tree = r.tree }

-- Resolved, each name of them
abbrev pub resolved_constraint : Outline → Stated → ResolvedConstraint
resolved_constraint o k = stated_for k.class (constraint_reading o k)

abbrev pub resolved_goal : Outline → GoalDecl → ResolvedGoal
resolved_goal o g = record { max = g.max; tree = (goal_reading o g).tree }

-- constraint number k of these
abbrev pub constraint_at : List ResolvedConstraint → ℕ → ResolvedConstraint
constraint_at ks k = slice_index_or ks k (record { class = None; place = 0; tree = Missing 0 })

-- P holds of a fault that is told; want of memory has no cause
abbrev pub OnFault : TypeFault → (TypeFault → Type 0) → Type 0
OnFault Memory P = Unit {0}
OnFault fault P = P fault
