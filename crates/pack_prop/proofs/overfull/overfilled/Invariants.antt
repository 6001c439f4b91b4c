use Rattle.std.proofs.Common.{◌≡◌, ◌≤◌, ◌-◌, drop, length}
use Rattle.pack_prop.specs.Sources.{with_part, some_over}
use Rattle.pack_prop.proofs.overfull.overfilled.Given as goal

abbrev pub invariant-loop-k : goal.invariant-loop-k
invariant-loop-k l = record {
  upto : l.k ≤ length l.tried.items.now;
  none : some_over l.at.value l.load.value (drop l.k l.tried.items.now) (with_part l.tried.boxes.now l.tried.x l.tried.part.now) ≡ some_over l.at.value l.load.value l.tried.items.now (with_part l.tried.boxes.now l.tried.x l.tried.part.now);
}

abbrev pub decreases-loop-k : goal.decreases-loop-k
decreases-loop-k l = length l.tried.items.now - l.k
