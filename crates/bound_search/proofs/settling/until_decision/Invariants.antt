use Rattle.std.proofs.Common.{◌≡◌, ◌+◌, ◌*◌, ◌≤◌, length}
use Rattle.run_law.specs.Decisions.{decisions}
use Rattle.bound_search.specs.Modes.{rank}
use Rattle.bound_search.specs.Engines.{Reached, IsKept}
use Rattle.bound_search.proofs.settling.until_decision.Given as goal

abbrev pub invariant-turns : goal.invariant-turns
invariant-turns g l = record {
  at : Reached l.g l.journal.lines l.e l.now;
  kept : IsKept l.g l.initial.journal l.journal;
  below : length l.e.board.store.below ≤ length l.initial.e.board.store.below;
  alike : decisions l.journal.lines ≡ decisions l.initial.journal.lines;
}

abbrev pub decreases-turns : goal.decreases-turns
decreases-turns g l = 3 * length l.e.board.store.below + rank l.now
