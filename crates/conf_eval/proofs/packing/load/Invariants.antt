use Rattle.std.proofs.Common.{◌≡◌, drop, map, ◌+ℤ◌}
use Rattle.conf_eval.specs.Meaning.{load}
use Rattle.conf_eval.specs.Packing.{item_view}
use Rattle.conf_eval.proofs.packing.load.Given as goal

-- with what is left it is the whole load
abbrev pub invariant-loop-item : goal.invariant-loop-item
invariant-loop-item l = l.sum.value +ℤ load l.bin (drop l.item-index (map item_view l.items)) ≡ load l.bin (map item_view l.items)
