-- When a configuration satisfies a model, what its objectives are, and which of two configurations
-- is better.
use Rattle.std.specs.Prelude.{◌≡◌, ℕ, suc, ◌<◌, Bool, true, false, ◌&&◌, cond, List, [], ◌∷◌, map, Option, None, Some, ℤ, int_lt, length, All}
use Rattle.class_table.specs.declared.table.Resolved.TheVariants as shape
use Rattle.class_table.specs.Outline.{Outline}
use Rattle.conf_types.specs.Programs.{ResolvedConstraint, ResolvedGoal}
use Rattle.object_alloc.specs.declared.object.Leaf.{Leaf}
use Rattle.object_alloc.specs.Cells.{extent}
use Rattle.object_alloc.specs.Walk.{walk, leaves_in}
use Rattle.conf_eval.specs.Meaning.{Setting, value, truth_of, int_of, objects_of, attribute_value, int_same}

-- no quantifier stands round a constraint or an objective
abbrev pub setting : Outline → List ℤ → Option ℕ → Setting
setting o values this = record { outline = o; values = values; this = this; vars = [] }

-- a reference set has as many members as its shape says
abbrev pub IsFull : Outline → List ℤ → Leaf → Type 0
IsFull o values l =
    (c n : ℕ) → l.shape ≡ shape.RefSet c n
    → length (objects_of (attribute_value o values l.owner l.attribute l.shape)) ≡ n

-- the objects for which a constraint is stated: at the top level once, without `this`
abbrev pub stated_for : Outline → Option ℕ → List (Option ℕ)
stated_for o None = None ∷ []
stated_for o (Some c) = map Some (extent o c)

abbrev pub HoldsFor : Outline → List ℤ → ResolvedConstraint → Option ℕ → Type 0
HoldsFor o values k this = truth_of (value k.tree (setting o values this)) ≡ true

abbrev pub Holds : Outline → List ℤ → ResolvedConstraint → Type 0
Holds o values k = All (HoldsFor o values k) (stated_for o k.class)

pub record Satisfies (o : Outline) (ks : List ResolvedConstraint) (values : List ℤ) : Type 0 where
  pub sets : All (IsFull o values) (leaves_in (walk o))
  pub constraints : All (Holds o values) ks

abbrev pub objective : Outline → List ℤ → ResolvedGoal → ℤ
objective o values g = int_of (value g.tree (setting o values None))

-- the objectives' values, in order of place
abbrev pub objectives : Outline → List ResolvedGoal → List ℤ → List ℤ
objectives o gs values = map (objective o values) gs

-- at the first objective where the two differ the first list's value is greater for `maximize`,
-- less for `minimize`
abbrev pub better : List ResolvedGoal → List ℤ → List ℤ → Bool
better (g ∷ gs) (v ∷ vs) (w ∷ ws) =
    cond (int_same v w) (better gs vs ws) (cond g.max (int_lt w v) (int_lt v w))
better gs vs ws = false
