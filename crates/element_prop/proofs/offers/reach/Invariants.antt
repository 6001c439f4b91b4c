use Rattle.std.proofs.Common.{◌≡◌, ◌≤◌, ◌-◌, drop}
use Rattle.element_prop.specs.Elements.{some_offers}
use Rattle.element_prop.proofs.offers.reach.Given as goal

abbrev pub invariant-loop-i : goal.invariant-loop-i
invariant-loop-i l = record {
  begun : l.near.from ≤ l.i;
  end : l.i ≤ l.near.to;
  same : some_offers (drop l.i l.items) l.at.value l.index l.boxes ≡ some_offers l.items l.at.value l.index l.boxes;
}

abbrev pub decreases-loop-i : goal.decreases-loop-i
decreases-loop-i l = l.near.to - l.i
