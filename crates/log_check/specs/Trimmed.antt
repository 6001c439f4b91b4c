-- Which lines of an accepted log are needed. What a reader believes after this file: what is left
-- out is neither named by what stays nor needed for the verdict.
use Rattle.std.specs.Prelude.{ℕ, zero, suc, ◌+◌, Bool, true, false, ◌&&◌, ◌||◌, cond, List, [], ◌∷◌, ◌++◌, ◌==◌, length, map, slice_index_or}
use Rattle.std.specs.List.{list_any}
use Rattle.signed_clause.specs.Ranges.{is_nil}
use Rattle.ground_form.specs.declared.ground.Ground.{Ground}
use Rattle.ground_form.specs.declared.ground.GroundGoal.{GroundGoal}
use Rattle.log_form.specs.declared.line.Line.{Line}
use Rattle.log_form.specs.declared.line.Line.TheVariants.{Axiom, Chain, Bound, Use, Found, Decide, Empty}
use Rattle.log_form.specs.Acceptance.{has_empty, made}
use Rattle.numbered_clauses.specs.declared.chain.Chain.{Chain as AChain}

-- ---- which clauses a line makes and names

-- a Bound line makes one for each goal, and one where there is no goal
abbrev pub bounds_count : List GroundGoal → ℕ
bounds_count [] = 1
bounds_count (goal ∷ goals) = suc (length goals)

-- how many clauses a line makes
abbrev pub clauses_of : Ground → Line → ℕ
clauses_of g (Bound values) = bounds_count g.goals
clauses_of g (Use i) = 0
clauses_of g (Found a) = 0
clauses_of g (Decide x set) = 0
clauses_of g other = 1

-- a step resolves with the clause of number j
abbrev pub steps_name : List (ℕ × ℕ) → ℕ → Bool
steps_name steps j = list_any (λ s. s.1 == j) steps

-- the line is a Chain that begins with the clause of number j or resolves with it
abbrev pub names : Line → ℕ → Bool
names (Chain chain c) j = chain.first == j || steps_name chain.steps j
names other j = false

-- ---- which lines are needed

-- every Found and every Bound line is, and a line that makes a clause, where it is the last or a
-- needed line names its clause; Use and Decide lines make none, so the last line of those that made
-- the empty clause is needed
abbrev pub is_needed : Line → Bool → Bool → Bool
is_needed (Bound values) last is_named = true
is_needed (Use i) last is_named = false
is_needed (Found a) last is_named = true
is_needed (Decide x set) last is_named = false
is_needed other last is_named = last || is_named

-- of lines before which n clauses were made, a needed one names the clause of number j
abbrev pub named : Ground → ℕ → List Line → ℕ → Bool
named g n [] j = false
named g n (l ∷ ls) j =
    (is_needed l (is_nil ls) (named g (n + clauses_of g l) ls n) && names l j)
    || named g (n + clauses_of g l) ls j

-- the line l, before which n clauses were made and behind which ls stand, is needed
abbrev pub stays : Ground → ℕ → Line → List Line → Bool
stays g n l ls = is_needed l (is_nil ls) (named g (n + clauses_of g l) ls n)

-- ---- the numbers that clauses have then

-- the number of a clause, out of the list of them
abbrev pub number_of : List ℕ → ℕ → ℕ
number_of numbers j = slice_index_or numbers j 0

abbrev pub steps_renumbered : List ℕ → List (ℕ × ℕ) → List (ℕ × ℕ)
steps_renumbered numbers ss = map (λ s. (s.0, number_of numbers s.1)) ss

abbrev pub chain_renumbered : List ℕ → AChain → AChain
chain_renumbered ns chain =
    record { first = number_of ns chain.first; steps = steps_renumbered ns chain.steps }

-- the line, with these numbers in place of those that it names
abbrev pub renumbered : List ℕ → Line → Line
renumbered numbers (Chain chain c) = Chain (chain_renumbered numbers chain) c
renumbered numbers other = other

-- the next number behind k clauses that stay or go
abbrev pub next_number : Bool → ℕ → ℕ → ℕ
next_number kept k next = cond kept (next + k) next

-- the numbers of k clauses that stay; where they go no line asks for theirs
abbrev pub numbers_from : Bool → ℕ → ℕ → List ℕ
numbers_from kept zero next = []
numbers_from kept (suc k) next = next ∷ numbers_from kept k (next_number kept 1 next)

-- ---- what is left

-- the needed lines in their order, where the clauses made before have these numbers and `next` is
-- the number of the next one that stays
abbrev pub trimmed_from : Ground → List ℕ → ℕ → List Line → List Line
trimmed_from g numbers next [] = []
trimmed_from g numbers next (l ∷ ls) =
    cond (stays g (length numbers) l ls) (renumbered numbers l ∷ []) []
    ++ trimmed_from g (numbers ++ numbers_from (stays g (length numbers) l ls) (clauses_of g l)
    next) (next_number (stays g (length numbers) l ls) (clauses_of g l) next) ls

-- all lines where the empty clause wasn't made, else the needed ones
abbrev pub trimmed : Ground → List Line → List Line
trimmed g ls = cond (has_empty (made g ls).clauses) (trimmed_from g [] 0 ls) ls
