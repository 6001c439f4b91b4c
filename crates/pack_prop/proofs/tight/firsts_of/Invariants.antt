use Rattle.std.proofs.Common.{◌≡◌, ◌+ℤ◌, ◌≤ℤ◌, ◌*◌, pos, drop}
use Rattle.pack_prop.specs.Tight.{firsts}
use Rattle.pack_prop.proofs.tight.firsts_of.Given as goal

abbrev pub invariant-loop-b : goal.invariant-loop-b
invariant-loop-b l = record {
  value : l.sum.value +ℤ firsts (drop l.b-index l.best_rooms) ≡ firsts l.best_rooms;
  low : pos 0 ≤ℤ (l.sum.value +ℤ pos (l.b-index * 9223372036854775808));
  high : l.sum.value ≤ℤ pos (l.b-index * 9223372036854775807);
}
