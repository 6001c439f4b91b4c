use Rattle.std.proofs.Common.{◌≡◌, drop}
use Rattle.box_rules.specs.FixedItems.{some_over}
use Rattle.box_rules.proofs.fixed_items.is_some_over.Given as goal

abbrev pub invariant-loop-p : goal.invariant-loop-p
invariant-loop-p l = some_over (drop l.p-index l.row) l.row ≡ some_over l.row l.row
