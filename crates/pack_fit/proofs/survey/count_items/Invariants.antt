use Rattle.std.proofs.Common.{◌≡◌, ◌≤◌, drop, length}
use Rattle.pack_fit.specs.Survey.{AreBegun, AreEnded}
use Rattle.pack_fit.proofs.survey.count_items.Given as goal

abbrev pub invariant-loop-k : goal.invariant-loop-k
invariant-loop-k l = record {
  begun_size : length l.begun ≡ length l.fn.begun;
  ended_size : length l.ended ≡ length l.fn.ended;
  begun_behind : AreBegun l.begun l.first.value (drop l.k l.items) l.boxes;
  ended_behind : AreEnded l.ended l.first.value (drop l.k l.items) l.boxes;
  upto : l.k ≤ length l.items;
}

abbrev pub decreases-loop-k : goal.decreases-loop-k
decreases-loop-k l = l.k
