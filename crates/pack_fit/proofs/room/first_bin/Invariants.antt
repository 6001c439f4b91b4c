use Rattle.std.proofs.Common.{◌≡◌, ◌≤ℤ◌, drop}
use Rattle.box_rules.specs.Refuted.{first_bin}
use Rattle.pack_fit.proofs.room.first_bin.Given as goal

abbrev pub invariant-loop-i : goal.invariant-loop-i
invariant-loop-i l = record {
  value : first_bin l.first.value (drop l.i-index l.items) l.boxes ≡ first_bin l.fn.from.value l.items l.boxes;
  order : l.first.value ≤ℤ l.fn.from.value;
}
