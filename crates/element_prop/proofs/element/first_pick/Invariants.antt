use Rattle.std.proofs.Common.{◌≡◌, ◌≤◌, ◌-◌, drop}
use Rattle.box_rules.specs.Refuted.{none_picked}
use Rattle.element_prop.proofs.element.first_pick.Given as goal

abbrev pub invariant-loop-i : goal.invariant-loop-i
invariant-loop-i l = record {
  begun : l.near.from ≤ l.i;
  end : l.i ≤ l.near.to;
  same : none_picked l.out l.index (drop l.i l.items) l.boxes ≡ none_picked l.out l.index l.items l.boxes;
}

abbrev pub decreases-loop-i : goal.decreases-loop-i
decreases-loop-i l = l.near.to - l.i
