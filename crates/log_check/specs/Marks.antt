-- How needed lines are found from the last line back: a mark for each clause that was made so far,
-- which tells whether a needed line behind names it.
use Rattle.std.specs.Prelude.{ℕ, zero, suc, ◌+◌, Bool, true, false, List, [], ◌∷◌, slice_set}
use Rattle.ground_form.specs.declared.ground.Ground.{Ground}
use Rattle.log_form.specs.declared.line.Line.{Line}
use Rattle.log_form.specs.declared.line.Line.TheVariants.{Axiom, Chain, Bound, Use, Found, Decide, Empty}
use Rattle.log_check.specs.Trimmed.{clauses_of, stays}

-- how many clauses the lines make
abbrev pub clauses_in : Ground → List Line → ℕ
clauses_in g [] = 0
clauses_in g (l ∷ ls) = clauses_of g l + clauses_in g ls

-- for each line, before which n clauses were made, whether it is needed
abbrev pub needs : Ground → ℕ → List Line → List Bool
needs g n [] = []
needs g n (l ∷ ls) = stays g n l ls ∷ needs g (n + clauses_of g l) ls

-- no mark
abbrev pub unmarked : ℕ → List Bool
unmarked zero = []
unmarked (suc n) = false ∷ unmarked n

-- the clauses that steps resolve with are marked
abbrev pub with_steps : List (ℕ × ℕ) → List Bool → List Bool
with_steps [] marks = marks
with_steps (s ∷ ss) marks = with_steps ss (slice_set marks s.1 true)

-- those that the line names are, where it is needed
abbrev pub with_names : Line → List Bool → List Bool
with_names (Axiom k c) marks = marks
with_names (Chain chain c) marks = with_steps chain.steps (slice_set marks chain.first true)
with_names (Bound values) marks = marks
with_names (Use i) marks = marks
with_names (Found a) marks = marks
with_names (Decide x set) marks = marks
with_names (Empty x) marks = marks

abbrev pub marked : Bool → Line → List Bool → List Bool
marked true l marks = with_names l marks
marked false l marks = marks
