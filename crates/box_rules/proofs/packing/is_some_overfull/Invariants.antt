use Rattle.std.proofs.Common.{◌≡◌, drop}
use Rattle.box_rules.specs.Refuted.{some_overfull}
use Rattle.box_rules.proofs.packing.is_some_overfull.Given as goal

abbrev pub invariant-loop-i : goal.invariant-loop-i
invariant-loop-i g l = some_overfull (drop l.i-index l.items) l.items (g.V.View.boxes l.view) ≡ some_overfull l.items l.items (g.V.View.boxes l.view)
