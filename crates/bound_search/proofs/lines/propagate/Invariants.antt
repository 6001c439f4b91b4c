use Rattle.std.proofs.Common.{◌≡◌, length}
use Rattle.run_law.specs.Replay.{Going}
use Rattle.run_law.specs.Decisions.{decisions}
use Rattle.bound_search.specs.Engines.{Shows, IsKept, total}
use Rattle.bound_search.proofs.lines.propagate.Given as goal

abbrev pub invariant-lines : goal.invariant-lines
invariant-lines g l = record {
  at : Shows l.g l.journal.lines l.e Going;
  kept : IsKept l.g l.initial.journal l.journal;
  below : length l.e.board.store.below ≡ length l.initial.e.board.store.below;
  alike : decisions l.journal.lines ≡ decisions l.initial.journal.lines;
}

abbrev pub decreases-lines : goal.decreases-lines
decreases-lines g l = total l.e.board.store.top.now
