-- How searches end. What a reader believes after this file: what a search has left when it ends,
-- and what the verdict says that comes of it.
use Rattle.std.specs.Prelude.{◌≡◌, ℕ, ◌≤◌, true, false, List}
use Rattle.ground_form.specs.declared.ground.Ground.{Ground}
use Rattle.log_form.specs.declared.line.Line.{Line}
use Rattle.log_check.specs.Soundness.{Means, FoundSolves}
use Rattle.log_check.specs.Verdicts.{Ending, ending}
use Rattle.log_check.specs.Kinds.{shown_of}
use Rattle.run_law.specs.Decisions.{decisions, MayDecide}
use Rattle.run_law.specs.Replay.{is_run}

-- the lines are a run of at most so many decisions as were allowed, the verdict is theirs, and what
-- it says of the problem is so; it is open only where all were taken, and a further one may stand
pub record HasSearched (g : Ground) (budget : ℕ) (ls : List Line) (v : Ending) : Type 0 where
  pub run : is_run g ls ≡ true
  pub verdict_is : v ≡ ending g ls
  pub sound : Means g (shown_of v)
  pub found : FoundSolves g v.found
  pub within : decisions ls ≤ budget
  pub spent : v.closed ≡ false → (decisions ls ≡ budget) × MayDecide g ls
