-- What accepted logs imply. What a reader believes after this file: that a checker's yes is worth
-- the same as a proof, whoever made the log.
use Rattle.std.specs.Prelude.{◌≡◌, ℕ, ◌<◌, true, List, ℤ, Option, Some, None, length}
use Rattle.signed_clause.specs.Clauses.{IsClause, clause_true}
use Rattle.ground_form.specs.declared.ground.Ground.{Ground}
use Rattle.ground_form.specs.Solutions.{IsSolution, better}
use Rattle.log_form.specs.declared.line.Line.{Line}
use Rattle.log_form.specs.declared.line.Line.TheVariants.{Axiom, Chain, Bound, Use, Found, Decide, Empty}
use Rattle.log_form.specs.Acceptance.{Made, beats, clause_at, Shown, Best, NoSolution, Open}

-- what was found last is a solution
abbrev pub FoundSolves : Ground → Option (List ℤ) → Type 0
FoundSolves g None = Unit {0}
FoundSolves g (Some a) = IsSolution g a

-- every clause that was made is true at each solution that is better than the one found last, and
-- at every solution while none was found
pub record IsSound (g : Ground) (m : Made) : Type 0 where
  pub forms : (j : ℕ) → IsClause (clause_at m.clauses j)
  pub truths : (a : List ℤ) → IsSolution g a → beats g.goals m.found a ≡ true → (j : ℕ)
      → j < length m.clauses → clause_true (clause_at m.clauses j) a ≡ true
  pub solved : FoundSolves g m.found

-- Best(a): a is a solution, and none is better. NoSolution: there is none. Open says nothing.
abbrev pub Means : Ground → Shown → Type 0
Means g (Best a) = IsSolution g a × ((b : List ℤ) → IsSolution g b → better g.goals b a ≡ true → ⊥)
Means g NoSolution = (a : List ℤ) → IsSolution g a → ⊥
Means g Open = Unit {0}

-- the clause of a line, if it has one, is a clause: its type says so
abbrev pub HasClause : Line → Type 0
HasClause (Axiom k c) = IsClause c
HasClause (Chain chain c) = IsClause c
HasClause (Bound values) = Unit {0}
HasClause (Use i) = Unit {0}
HasClause (Found a) = Unit {0}
HasClause (Decide x set) = Unit {0}
HasClause (Empty x) = Unit {0}
