use Rattle.std.proofs.Common.{◌≡◌, drop}
use Rattle.box_rules.specs.Refuted.{some_barred}
use Rattle.box_rules.proofs.flags.is_some_barred.Given as goal

abbrev pub invariant-loop-p : goal.invariant-loop-p
invariant-loop-p g l = some_barred (drop l.p-index l.parts) (g.V.View.boxes l.view) ≡ some_barred l.parts (g.V.View.boxes l.view)
