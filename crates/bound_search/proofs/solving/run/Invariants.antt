use Rattle.std.proofs.Common.{◌≡◌, ◌+◌, ◌≤◌, length}
use Rattle.run_law.specs.Replay.{Going}
use Rattle.run_law.specs.Decisions.{decisions}
use Rattle.bound_search.specs.Engines.{Shows, IsKeptBy}
use Rattle.bound_search.proofs.solving.run.Given as goal

abbrev pub invariant-decisions : goal.invariant-decisions
invariant-decisions g l = record {
  at : Shows l.g l.journal.lines l.e Going;
  kept : IsKeptBy l.g l.chooser.order l.hints l.initial.journal l.journal;
  decided : decisions l.journal.lines + l.left ≡ l.fn.limits.budget;
  below : length l.e.board.store.below + l.left ≤ l.fn.limits.budget;
}

abbrev pub decreases-decisions : goal.decreases-decisions
decreases-decisions g l = l.left
