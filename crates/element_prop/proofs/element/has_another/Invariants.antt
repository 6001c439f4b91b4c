use Rattle.std.proofs.Common.{◌≡◌, ◌≤◌, ◌-◌, drop}
use Rattle.element_prop.specs.Elements.{some_other}
use Rattle.element_prop.proofs.element.has_another.Given as goal

abbrev pub invariant-loop-i : goal.invariant-loop-i
invariant-loop-i l = record {
  begun : l.near.from ≤ l.i;
  end : l.i ≤ l.near.to;
  same : some_other (drop l.i l.items) l.x l.out l.index l.boxes ≡ some_other l.items l.x l.out l.index l.boxes;
}

abbrev pub decreases-loop-i : goal.decreases-loop-i
decreases-loop-i l = l.near.to - l.i
