use Rattle.std.proofs.Common.{◌≡◌, drop}
use Rattle.box_rules.specs.Refuted.{all_fixed}
use Rattle.box_rules.proofs.flags.are_all_fixed.Given as goal

abbrev pub invariant-loop-p : goal.invariant-loop-p
invariant-loop-p g l = all_fixed (drop l.p-index l.parts) (g.V.View.boxes l.view) ≡ all_fixed l.parts (g.V.View.boxes l.view)
