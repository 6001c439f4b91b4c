use Rattle.std.proofs.Common.{◌≡◌, ◌-ℤ◌, ◌≤ℤ◌, ◌<ℤ◌, ℤ, true, unsigned_abs}
use Rattle.element_prop.specs.Elements.{some_offers}
use Rattle.element_prop.proofs.offers.unoffered_between.Given as goal

abbrev pub invariant-loop-end : goal.invariant-loop-end
invariant-loop-end l = record {
  begun : l.fn.first.value ≤ℤ l.at.value;
  order : l.at.value ≤ℤ l.last.value;
  offered : (v : ℤ) → l.fn.first.value ≤ℤ v → v <ℤ l.at.value → some_offers l.items v l.index l.boxes ≡ true;
}

abbrev pub decreases-loop-end : goal.decreases-loop-end
decreases-loop-end l = unsigned_abs (l.last.value -ℤ l.at.value)
