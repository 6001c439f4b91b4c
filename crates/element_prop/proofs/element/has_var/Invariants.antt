use Rattle.std.proofs.Common.{◌≡◌, ◌≤◌, ◌-◌, drop}
use Rattle.element_prop.specs.Elements.{lacks_var}
use Rattle.element_prop.proofs.element.has_var.Given as goal

abbrev pub invariant-loop-i : goal.invariant-loop-i
invariant-loop-i l = record {
  begun : l.near.from ≤ l.i;
  end : l.i ≤ l.near.to;
  same : lacks_var l.x (drop l.i l.items) l.index ≡ lacks_var l.x l.items l.index;
}

abbrev pub decreases-loop-i : goal.decreases-loop-i
decreases-loop-i l = l.near.to - l.i
