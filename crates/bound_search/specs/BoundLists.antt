-- The clauses of a Bound line, taken in. What a reader believes after this file: which numbers they
-- get, and which of them is the conflict.
use Rattle.std.specs.Prelude.{ℕ, suc, List, [], ◌∷◌, ℤ, Option, Some, None}
use Rattle.signed_clause.specs.Clauses.{Literals}
use Rattle.ground_form.specs.declared.ground.GroundGoal.{GroundGoal}
use Rattle.ground_form.specs.Meaning.{value_of}
use Rattle.run_law.specs.Replay.{Mode, Conflict}

-- the clauses with their numbers, from n on
abbrev pub numbered_from : ℕ → List Literals → List (ℕ × Literals)
numbered_from n [] = []
numbered_from n (c ∷ cs) = (n, c) ∷ numbered_from (suc n) cs

-- a conflict that was found already, or else what comes
abbrev pub first_or : Option ℕ → Mode → Mode
first_or None mode = mode
first_or (Some n) mode = Conflict n

-- the goals' values at a
abbrev pub values_of : List ℤ → List GroundGoal → List ℤ
values_of a [] = []
values_of a (goal ∷ goals) = value_of a goal.var ∷ values_of a goals
