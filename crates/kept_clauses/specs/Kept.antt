-- Which learnt clauses rest on the first constraints of a problem alone. What a reader believes
-- after this file: a clause that is kept is derived by chains from clauses of these constraints, so
-- neither a bound nor any other constraint had a part in it, and it names early variables alone.
use Rattle.std.specs.Prelude.{ℕ, Bool, true, false, ◌&&◌, cond, List, [], ◌∷◌, ◌++◌, nat_lt, replicate, slice_index_or}
use Rattle.signed_clause.specs.Clauses.{Literals}
use Rattle.ground_form.specs.declared.ground.Ground.{Ground}
use Rattle.ground_form.specs.Meaning.{clause_vars}
use Rattle.log_check.specs.Trimmed.{bounds_count}
use Rattle.log_form.specs.Acceptance.{vars_below}
use Rattle.log_form.specs.declared.line.Line.{Line}
use Rattle.log_form.specs.declared.line.Line.TheVariants.{Axiom, Chain, Bound, Use, Found, Decide, Empty}
use Rattle.numbered_clauses.specs.declared.chain.Chain.{Chain as AChain}

-- ---- marks: for each clause that was made whether it rests on the first b constraints

abbrev pub is_marked : List Bool → ℕ → Bool
is_marked marks j = slice_index_or marks j false

-- all clauses that steps resolve with do
abbrev pub steps_rest : List Bool → List (ℕ × ℕ) → Bool
steps_rest marks [] = true
steps_rest marks (s ∷ ss) = is_marked marks s.1 && steps_rest marks ss

-- all clauses that a chain names do
abbrev pub chain_rests : List Bool → AChain → Bool
chain_rests marks chain = is_marked marks chain.first && steps_rest marks chain.steps

-- those of the clauses that a line makes: that of one of the first b constraints rests on them, and
-- that of a chain where all do that it names; what a bound or an empty domain makes doesn't
abbrev pub marks_of : Ground → ℕ → List Bool → Line → List Bool
marks_of g b marks (Axiom k c) = nat_lt k b ∷ []
marks_of g b marks (Chain chain c) = chain_rests marks chain ∷ []
marks_of g b marks (Bound values) = replicate (bounds_count g.goals) false
marks_of g b marks (Use i) = []
marks_of g b marks (Found a) = []
marks_of g b marks (Decide x set) = []
marks_of g b marks (Empty x) = false ∷ []

-- ---- which lines' clauses are kept

-- the line makes a clause by a chain, which rests on the first constraints and has variables among
-- the first n alone
abbrev pub is_kept : ℕ → List Bool → Line → Bool
is_kept n marks (Axiom k c) = false
is_kept n marks (Chain chain c) = chain_rests marks chain && vars_below n (clause_vars c)
is_kept n marks (Bound values) = false
is_kept n marks (Use i) = false
is_kept n marks (Found a) = false
is_kept n marks (Decide x set) = false
is_kept n marks (Empty x) = false

-- for each line whether its clause is, where the clauses made before have these marks
abbrev pub keeps : Ground → ℕ → ℕ → List Bool → List Line → List Bool
keeps g n b marks [] = []
keeps g n b marks (l ∷ ls) = is_kept n marks l ∷ keeps g n b (marks ++ marks_of g b marks l) ls

-- ---- the clauses that are kept

-- the clause that a chain leads to
abbrev pub derived : Line → List Literals
derived (Axiom k c) = []
derived (Chain chain c) = c ∷ []
derived (Bound values) = []
derived (Use i) = []
derived (Found a) = []
derived (Decide x set) = []
derived (Empty x) = []

-- those of the lines that are flagged
abbrev pub flagged : List Bool → List Line → List Literals
flagged [] ls = []
flagged (f ∷ fs) [] = []
flagged (f ∷ fs) (l ∷ ls) = cond f (derived l) [] ++ flagged fs ls

-- the clauses of lines that rest on the first b constraints and have variables among the first n
-- alone, in order
abbrev pub kept : Ground → ℕ → ℕ → List Line → List Literals
kept g n b ls = flagged (keeps g n b [] ls) ls
