use Rattle.std.proofs.Common.{◌≡◌, ◌≤◌, length}
use Rattle.running_clause.specs.Running.{listed}
use Rattle.learn_clauses.proofs.WalkByIndex.{WalkingAt}
use Rattle.learn_clauses.proofs.conflict.walk_back.Given as goal

abbrev pub invariant-loop-left : goal.invariant-loop-left
invariant-loop-left l = record {
  left : l.left ≤ length l.trail;
  size : length l.running ≡ length l.fn.running;
  walking : WalkingAt l.clauses l.store.top.now l.trail l.fn.conflict l.left (listed 0 l.running)
      l.steps.items;
}

abbrev pub decreases-loop-left : goal.decreases-loop-left
decreases-loop-left l = l.left
