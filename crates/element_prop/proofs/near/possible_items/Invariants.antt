use Rattle.std.proofs.Common.{◌≡◌, ◌≤◌, ◌+◌, ◌-◌, drop}
use Rattle.element_prop.specs.Elements.{count_possible}
use Rattle.element_prop.proofs.near.possible_items.Given as goal

abbrev pub invariant-loop-i : goal.invariant-loop-i
invariant-loop-i l = record {
  count : l.count + count_possible (drop l.i l.items) l.index ≡ count_possible (drop l.from l.items) l.index;
  few : l.count ≤ l.i;
  begun : l.from ≤ l.i;
  end : l.i ≤ l.to;
}

abbrev pub decreases-loop-i : goal.decreases-loop-i
decreases-loop-i l = l.to - l.i
