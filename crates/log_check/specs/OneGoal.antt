-- Acceptance as it reads for problems with one goal, or none. What a reader believes after this
-- file: what lists of goals say there is what one would say without them.
use Rattle.std.specs.Prelude.{ℕ, Bool, true, false, not, ◌&&◌, cond, List, [], ◌∷◌, ◌++◌, ℤ, int_lt, Option, Some, None}
use Rattle.std.specs.Ordering.{int_eq}
use Rattle.signed_clause.specs.Ranges.{Ranges, is_nil}
use Rattle.signed_clause.specs.SetAlgebra.{meet}
use Rattle.signed_clause.specs.Clauses.{Boxes, Literals, box_of}
use Rattle.ground_form.specs.declared.ground.Ground.{Ground}
use Rattle.ground_form.specs.declared.ground.GroundGoal.{GroundGoal}
use Rattle.ground_form.specs.Meaning.{value_of}
use Rattle.log_form.specs.declared.line.Line.{Line}
use Rattle.log_form.specs.declared.line.Line.TheVariants.{Axiom, Chain, Bound, Use, Found, Decide, Empty}
use Rattle.log_form.specs.Acceptance.{Made, has_empty, point_of, all_true, better_than, accepts, after}

-- the first goal, where there is one
abbrev pub goal_of : List GroundGoal → Option GroundGoal
goal_of [] = None
goal_of (goal ∷ goals) = Some goal

-- the goal's value is better at the first values; nothing is better without a goal
abbrev pub better_at : Option GroundGoal → List ℤ → List ℤ → Bool
better_at None a b = false
better_at (Some goal) a b =
    cond goal.max (int_lt (value_of b goal.var) (value_of a goal.var))
    (int_lt (value_of a goal.var) (value_of b goal.var))

abbrev pub improves : Option GroundGoal → Option (List ℤ) → List ℤ → Bool
improves goal None a = true
improves goal (Some b) a = better_at goal a b

-- the line states the goal's value, and nothing without a goal
abbrev pub states_value : Option GroundGoal → List ℤ → List ℤ → Bool
states_value None a [] = true
states_value None a (v ∷ vs) = false
states_value (Some goal) a [] = false
states_value (Some goal) a (v ∷ []) = int_eq v (value_of a goal.var)
states_value (Some goal) a (v ∷ w ∷ vs) = false

abbrev pub states_last : Option GroundGoal → Option (List ℤ) → List ℤ → Bool
states_last goal None vs = false
states_last goal (Some a) vs = states_value goal a vs

-- the clause of one literal: the values of the goal's domain that are better than its value; the
-- empty clause where there are none, or no goal
abbrev pub one_literal : ℕ → Ranges → Literals
one_literal x s = cond (is_nil s) [] ((x, s) ∷ [])

abbrev pub bound_at : Option GroundGoal → Boxes → List ℤ → Literals
bound_at None domains a = []
bound_at (Some goal) domains a =
    one_literal goal.var (meet (box_of domains goal.var)
    (better_than goal.max (value_of a goal.var)))

abbrev pub bound_last : Ground → Option (List ℤ) → List Literals
bound_last g None = []
bound_last g (Some a) = bound_at (goal_of g.goals) g.domains a ∷ []

-- what a line has to meet, and what stands behind it
abbrev pub one_accepts : Ground → Made → Line → Bool
one_accepts g m (Axiom k c) = accepts g m (Axiom k c)
one_accepts g m (Chain chain c) = accepts g m (Chain chain c)
one_accepts g m (Bound values) = states_last (goal_of g.goals) m.found values
one_accepts g m (Use i) = accepts g m (Use i)
one_accepts g m (Found a) =
    point_of g.domains a && (all_true g.cons a && improves (goal_of g.goals) m.found a)
one_accepts g m (Decide x set) = accepts g m (Decide x set)
one_accepts g m (Empty x) = accepts g m (Empty x)

abbrev pub one_after : Ground → Made → Line → Made
one_after g m (Axiom k c) = after g m (Axiom k c)
one_after g m (Chain chain c) = after g m (Chain chain c)
one_after g m (Bound values) =
    record { clauses = m.clauses ++ bound_last g m.found; found = m.found }
one_after g m (Use i) = after g m (Use i)
one_after g m (Found a) = after g m (Found a)
one_after g m (Decide x set) = after g m (Decide x set)
one_after g m (Empty x) = after g m (Empty x)

abbrev pub one_accepted_from : Ground → Made → List Line → Bool
one_accepted_from g m [] = true
one_accepted_from g m (l ∷ ls) =
    (not (has_empty m.clauses) && one_accepts g m l) && one_accepted_from g (one_after g m l) ls

abbrev pub one_made_from : Ground → Made → List Line → Made
one_made_from g m [] = m
one_made_from g m (l ∷ ls) = one_made_from g (one_after g m l) ls
