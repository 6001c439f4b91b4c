-- Which logs are accepted against a ground problem. What a reader believes after this file: what
-- each line has to meet when its turn comes, which clauses it makes, and what the lines together
-- show.
use Rattle.std.specs.Prelude.{ℕ, Bool, true, false, not, ◌&&◌, ◌||◌, cond, List, [], ◌∷◌, ◌++◌, ℤ, pos, negsuc, ◌+ℤ◌, ◌-ℤ◌, ◌-◌, ◌≡◌, take, Option, Some, None, length, slice_index_or, nat_lt, ◌==◌}
use Rattle.std.specs.Ordering.{int_eq}
use Rattle.signed_clause.specs.Ranges.{Ranges, has, is_nil}
use Rattle.signed_clause.specs.SetAlgebra.{meet, join, piece}
use Rattle.signed_clause.specs.Clauses.{Boxes, Literals, box_of, has_var, resolvent}
use Rattle.ground_form.specs.declared.con.Con.{Con}
use Rattle.ground_form.specs.declared.con.Con.TheVariants.{LinLe}
use Rattle.ground_form.specs.declared.ground.Ground.{Ground}
use Rattle.ground_form.specs.declared.ground.GroundGoal.{GroundGoal}
use Rattle.ground_form.specs.Meaning.{value_of, con_true, clause_vars}
use Rattle.ground_form.specs.Solutions.{better}
use Rattle.box_rules.specs.Justified.{justified}
pub use Rattle.numbered_clauses.specs.Numbered.{clause_at}
use Rattle.log_form.specs.declared.line.Line.{Line}
use Rattle.log_form.specs.declared.line.Line.TheVariants.{Axiom, Chain, Bound, Use, Found, Decide, Empty}

-- what the lines so far leave: the clauses in the order in which they were made, and the values of
-- the last Found line
pub record Made : Type 0 where
  pub clauses : List Literals
  pub found : Option (List ℤ)

-- before the first line
abbrev pub start : Made
start = record { clauses = []; found = None }

-- the empty clause was made
abbrev pub has_empty : List Literals → Bool
has_empty [] = false
has_empty (c ∷ cs) = is_nil c || has_empty cs

-- ---- chains

-- a chain from c: each step's clause was made before, and both have the variable
abbrev pub chain_holds : List Literals → Literals → List (ℕ × ℕ) → Bool
chain_holds cs c [] = true
chain_holds cs c (s ∷ ss) =
    nat_lt s.1 (length cs) && (has_var c s.0 && (has_var (clause_at cs s.1) s.0
    && chain_holds cs (resolvent s.0 c (clause_at cs s.1)) ss))

-- what it ends with
abbrev pub chain_end : List Literals → Literals → List (ℕ × ℕ) → Literals
chain_end cs c [] = c
chain_end cs c (s ∷ ss) = chain_end cs (resolvent s.0 c (clause_at cs s.1)) ss

-- lists, sets and clauses are the same
abbrev pub all_same : {X : Type 0} → (X → X → Bool) → List X → List X → Bool
all_same same [] [] = true
all_same same [] (y ∷ ys) = false
all_same same (x ∷ xs) [] = false
all_same same (x ∷ xs) (y ∷ ys) = same x y && all_same same xs ys

abbrev pub same_set : Ranges → Ranges → Bool
same_set a b = all_same (λ r s. int_eq r.0 s.0 && int_eq r.1 s.1) a b

abbrev pub same_clause : Literals → Literals → Bool
same_clause c d = all_same (λ l m. l.0 == m.0 && same_set l.1 m.1) c d

-- ---- solutions

-- each value lies in its domain, and there is one for each
abbrev pub point_of : Boxes → List ℤ → Bool
point_of [] [] = true
point_of [] (v ∷ vs) = false
point_of (d ∷ ds) [] = false
point_of (d ∷ ds) (v ∷ vs) = has d v && point_of ds vs

abbrev pub all_true : List Con → List ℤ → Bool
all_true [] a = true
all_true (con ∷ cons) a = con_true con a && all_true cons a

-- better than the values found last, if there are any
abbrev pub beats : List GroundGoal → Option (List ℤ) → List ℤ → Bool
beats goals None a = true
beats goals (Some b) a = better goals a b

-- ---- bounds

-- the values that are better than v in the direction
abbrev pub better_than : Bool → ℤ → Ranges
better_than true v = piece (v +ℤ pos 1) (pos 9223372036854775807) []
better_than false v = piece (negsuc 9223372036854775807) (v -ℤ pos 1) []

-- the values that are as good as v or better
abbrev pub as_good_as : Bool → ℤ → Ranges
as_good_as true v = piece v (pos 9223372036854775807) []
as_good_as false v = piece (negsuc 9223372036854775807) v []

-- the clause that says what c says, or that the value of x is in the set
abbrev pub with_literal : ℕ → Ranges → Literals → Literals
with_literal x s [] = cond (is_nil s) [] ((x, s) ∷ [])
with_literal x s (l ∷ c) =
    cond (is_nil s) (l ∷ c)
    (cond (nat_lt x l.0) ((x, s) ∷ l ∷ c) (cond (l.0 == x) ((x, join l.1 s) ∷ c)
    (l ∷ with_literal x s c)))

-- the values of a goal's domain that are better than, or as good as, its value at a
abbrev pub better_values : Boxes → List ℤ → GroundGoal → Ranges
better_values domains a goal =
    meet (box_of domains goal.var) (better_than goal.max (value_of a goal.var))

abbrev pub as_good_values : Boxes → List ℤ → GroundGoal → Ranges
as_good_values domains a goal =
    meet (box_of domains goal.var) (as_good_as goal.max (value_of a goal.var))

-- the clauses for the goals, where `earlier` says that some goal before them is better than at a:
-- for each goal but the last that some earlier goal is better or this one as good; for the last
-- that some earlier goal is better or this one is
abbrev pub bounds_from : Boxes → List ℤ → Literals → List GroundGoal → List Literals
bounds_from domains a earlier [] = []
bounds_from domains a earlier (goal ∷ []) =
    with_literal goal.var (better_values domains a goal) earlier ∷ []
bounds_from domains a earlier (goal ∷ next ∷ goals) =
    with_literal goal.var (as_good_values domains a goal) earlier
    ∷ bounds_from domains a (with_literal goal.var (better_values domains a goal) earlier)
    (next ∷ goals)

-- the clauses of a Bound line behind the values a: one for each goal, and the empty one where there
-- is no goal
abbrev pub bounds_of : List GroundGoal → Boxes → List ℤ → List Literals
bounds_of [] domains a = [] ∷ []
bounds_of (goal ∷ goals) domains a = bounds_from domains a [] (goal ∷ goals)

-- none where nothing was found
abbrev pub bounds : Ground → Option (List ℤ) → List Literals
bounds g None = []
bounds g (Some a) = bounds_of g.goals g.domains a

-- the values are those of the goals at a
abbrev pub states : List GroundGoal → List ℤ → List ℤ → Bool
states [] a [] = true
states [] a (v ∷ vs) = false
states (goal ∷ goals) a [] = false
states (goal ∷ goals) a (v ∷ vs) = int_eq v (value_of a goal.var) && states goals a vs

-- they are those at the values found last, which there are
abbrev pub states_found : List GroundGoal → Option (List ℤ) → List ℤ → Bool
states_found goals None vs = false
states_found goals (Some a) vs = states goals a vs

-- ---- lines

-- each variable is one of the first n
abbrev pub vars_below : ℕ → List ℕ → Bool
vars_below n [] = true
vars_below n (x ∷ xs) = nat_lt x n && vars_below n xs

-- the constraint of a number; one that is always true past the end
abbrev pub con_at : List Con → ℕ → Con
con_at cons k = slice_index_or cons k (LinLe [] (pos 0))

-- what the line has to meet
unfoldable pub accepts : Ground → Made → Line → Bool
-- the constraint and the variables exist, and the constraint justifies the clause
accepts g m (Axiom k c) =
    nat_lt k (length g.cons) && (vars_below (length g.domains) (clause_vars c)
    && justified (con_at g.cons k) g.domains c)
-- the clauses were made before, each step has its variable in both, and the result is the stated
-- clause
accepts g m (Chain chain c) =
    nat_lt chain.first (length m.clauses)
    && (chain_holds m.clauses (clause_at m.clauses chain.first) chain.steps
    && same_clause (chain_end m.clauses (clause_at m.clauses chain.first) chain.steps) c)
-- something was found, and these are its goals' values
accepts g m (Bound values) = states_found g.goals m.found values
-- the clause was made before
accepts g m (Use i) = nat_lt i (length m.clauses)
-- a solution, better than the one before
accepts g m (Found a) = point_of g.domains a && (all_true g.cons a && beats g.goals m.found a)
-- the variable exists
accepts g m (Decide x set) = nat_lt x (length g.domains)
-- the variable exists, and its domain is empty
accepts g m (Empty x) = nat_lt x (length g.domains) && is_nil (box_of g.domains x)

-- what stands behind it
unfoldable pub after : Ground → Made → Line → Made
after g m (Axiom k c) = record { clauses = m.clauses ++ c ∷ []; found = m.found }
after g m (Chain chain c) = record { clauses = m.clauses ++ c ∷ []; found = m.found }
after g m (Bound values) = record { clauses = m.clauses ++ bounds g m.found; found = m.found }
after g m (Use i) = m
after g m (Found a) = record { clauses = m.clauses; found = Some a }
after g m (Decide x set) = m
after g m (Empty x) = record { clauses = m.clauses ++ [] ∷ []; found = m.found }

-- the line may come: it meets what it has to, and the empty clause wasn't made before
abbrev pub may_come : Ground → Made → Line → Bool
may_come g m l = not (has_empty m.clauses) && accepts g m l

-- each line may come when its turn comes
abbrev pub accepted_from : Ground → Made → List Line → Bool
accepted_from g m [] = true
accepted_from g m (l ∷ ls) = may_come g m l && accepted_from g (after g m l) ls

-- what the lines leave
abbrev pub made_from : Ground → Made → List Line → Made
made_from g m [] = m
made_from g m (l ∷ ls) = made_from g (after g m l) ls

-- the lines are accepted
abbrev pub accepted : Ground → List Line → Bool
accepted g ls = accepted_from g start ls

-- what accepted lines leave
abbrev pub made : Ground → List Line → Made
made g ls = made_from g start ls

-- what accepted lines show
pub data Shown : Type 0 where
  -- these values are a solution, and none is better
  Best : List ℤ → Shown
  -- there is no solution
  NoSolution : Shown
  -- nothing
  Open : Shown

-- the last values found are best where the empty clause was made, and there is no solution where it
-- was made and none found
abbrev pub shown_by : Bool → Option (List ℤ) → Shown
shown_by false found = Open
shown_by true None = NoSolution
shown_by true (Some a) = Best a

abbrev pub verdict : Ground → List Line → Shown
verdict g ls = shown_by (has_empty (made g ls).clauses) (made g ls).found

-- line n, counted from 1, is the first that fails
pub record FailsFirst (g : Ground) (ls : List Line) (n : ℕ) : Type 0 where
  pub before : accepted g (take (n - 1) ls) ≡ true
  pub here : accepted g (take n ls) ≡ false
