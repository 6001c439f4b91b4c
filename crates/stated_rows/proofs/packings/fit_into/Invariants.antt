use Rattle.std.proofs.Common.{pos, ◌≤ℤ◌}
use Rattle.stated_rows.proofs.LoadLaws.{HasLeft}
use Rattle.stated_rows.proofs.packings.fit_into.Given as goal

abbrev pub invariant-loop-load : goal.invariant-loop-load
invariant-loop-load l = record {
  some : pos 0 ≤ℤ l.left.value;
  left : HasLeft l.loads l.fn.room.value l.load-index l.left.value;
}
