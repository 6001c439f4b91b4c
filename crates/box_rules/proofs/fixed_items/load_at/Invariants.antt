use Rattle.std.proofs.Common.{◌≡◌, ◌+ℤ◌, ◌≤ℤ◌, ◌*◌, pos, drop}
use Rattle.box_rules.specs.FixedItems.{load_of}
use Rattle.box_rules.proofs.fixed_items.load_at.Given as goal

abbrev pub invariant-loop-p : goal.invariant-loop-p
invariant-loop-p l = record {
  value : l.load.value +ℤ load_of l.bin.0 (drop l.p-index l.row) ≡ load_of l.bin.0 l.row;
  low : pos 0 ≤ℤ (l.load.value +ℤ pos (l.p-index * 9223372036854775808));
  high : l.load.value ≤ℤ pos (l.p-index * 9223372036854775807);
}
