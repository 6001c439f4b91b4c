use Rattle.std.proofs.Common.{◌≤◌, ◌-◌}
use Rattle.element_prop.specs.Walks.{IsPassed}
use Rattle.element_prop.proofs.element.walk_over.Given as goal

abbrev pub invariant-loop-i : goal.invariant-loop-i
invariant-loop-i l = record {
  begun : l.near.from ≤ l.i;
  end : l.i ≤ l.near.to;
  few : l.count ≤ l.i;
  passed : IsPassed l.items l.near.from l.i l.vars.0 l.vars.1 l.out l.index l.boxes l.count l.apart;
}

abbrev pub decreases-loop-i : goal.decreases-loop-i
decreases-loop-i l = l.near.to - l.i
