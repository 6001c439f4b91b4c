use Rattle.std.proofs.Common.{◌≡◌, drop}
use Rattle.pack_prop.specs.Tight.{all_grow}
use Rattle.pack_prop.proofs.tight.excess_of_sizes.Given as goal

abbrev pub invariant-loop-i : goal.invariant-loop-i
invariant-loop-i l = all_grow l.need.value l.all.value (drop l.i-index l.items) l.boxes ≡ all_grow l.need.value l.all.value l.items l.boxes
