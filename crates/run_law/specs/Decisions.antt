-- How often a run decides. What a reader believes after this file: which lines count as decisions,
-- and what it means that a further one could stand.
use Rattle.std.specs.Prelude.{◌≡◌, ℕ, suc, true, List, [], ◌∷◌, ◌++◌}
use Rattle.signed_clause.specs.Ranges.{Ranges, IsValid}
use Rattle.ground_form.specs.declared.ground.Ground.{Ground}
use Rattle.log_form.specs.declared.line.Line.{Line}
use Rattle.log_form.specs.declared.line.Line.TheVariants.{Axiom, Chain, Bound, Use, Found, Decide, Empty}
use Rattle.run_law.specs.Replay.{is_run}

-- how many Decide lines there are
abbrev pub decisions : List Line → ℕ
decisions [] = 0
decisions (Decide x half ∷ ls) = suc (decisions ls)
decisions (other ∷ ls) = decisions ls

-- the lines are a run, and some Decide line, whose half is a set, may stand next
pub record MayDecide (g : Ground) (ls : List Line) : Type 0 where
  pub var : ℕ
  pub half : Ranges
  pub set : IsValid half
  pub stands : is_run g (ls ++ Decide var half ∷ []) ≡ true
