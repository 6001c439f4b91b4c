use Rattle.std.proofs.Common.{◌≡◌, ◌||◌, ℤ, true, drop}
use Rattle.signed_clause.specs.Ranges.{has}
use Rattle.element_prop.specs.Elements.{some_offers}
use Rattle.element_prop.proofs.offers.unoffered_of.Given as goal

abbrev pub invariant-loop-r : goal.invariant-loop-r
invariant-loop-r l = (v : ℤ) → has l.set v ≡ true → (has (drop l.r-index l.set) v || some_offers l.items v l.index l.boxes) ≡ true
