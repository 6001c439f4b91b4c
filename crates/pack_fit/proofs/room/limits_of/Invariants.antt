use Rattle.std.proofs.Common.{◌≡◌, ◌≤◌, drop, length}
use Rattle.pack_fit.specs.Survey.{open_size, open_floor}
use Rattle.pack_fit.proofs.room.limits_of.Given as goal

abbrev pub invariant-loop-k : goal.invariant-loop-k
invariant-loop-k l = record {
  size : l.limits.size.value ≡ open_size (drop l.k l.items) l.boxes;
  floor : l.limits.floor.value ≡ open_floor (drop l.k l.items) l.boxes;
  upto : l.k ≤ length l.items;
}

abbrev pub decreases-loop-k : goal.decreases-loop-k
decreases-loop-k l = l.k
