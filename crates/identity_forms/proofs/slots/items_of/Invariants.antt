use Rattle.std.proofs.Common.{◌≡◌, ◌++◌, drop}
use Rattle.identity_forms.specs.Lists.{cell_items}
use Rattle.identity_forms.proofs.slots.items_of.Given as goal

abbrev pub invariant-loop-pair : goal.invariant-loop-pair
invariant-loop-pair l = l.items.items ++ cell_items l.cells (drop l.pair-index l.pairs) ≡ cell_items l.cells l.pairs
