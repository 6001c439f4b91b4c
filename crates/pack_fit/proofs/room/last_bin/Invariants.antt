use Rattle.std.proofs.Common.{◌≡◌, ◌≤ℤ◌, drop}
use Rattle.box_rules.specs.Refuted.{last_bin}
use Rattle.pack_fit.proofs.room.last_bin.Given as goal

abbrev pub invariant-loop-i : goal.invariant-loop-i
invariant-loop-i l = record {
  value : last_bin l.last.value (drop l.i-index l.items) l.boxes ≡ last_bin l.fn.from.value l.items l.boxes;
  order : l.fn.from.value ≤ℤ l.last.value;
}
