use Rattle.std.proofs.Common.{◌≡◌, drop}
use Rattle.box_rules.specs.Refuted.{crowded_from}
use Rattle.box_rules.proofs.all_different.is_crowded_from.Given as goal

abbrev pub invariant-loop-y : goal.invariant-loop-y
invariant-loop-y g l = crowded_from l.a.value (drop l.y-index l.vars) l.vars (g.V.View.boxes l.view) ≡ crowded_from l.a.value l.vars l.vars (g.V.View.boxes l.view)
