use Rattle.std.proofs.Common.{◌≡◌, drop}
use Rattle.element_prop.specs.Elements.{without_items}
use Rattle.element_prop.proofs.element.without_items.Given as goal

abbrev pub invariant-loop-t : goal.invariant-loop-t
invariant-loop-t l = without_items (drop l.t-index l.items) l.rest ≡ without_items l.items l.set
