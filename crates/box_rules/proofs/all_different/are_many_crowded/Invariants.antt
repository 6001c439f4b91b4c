use Rattle.std.proofs.Common.{◌≡◌, drop}
use Rattle.box_rules.specs.Refuted.{some_crowded}
use Rattle.box_rules.proofs.all_different.are_many_crowded.Given as goal

abbrev pub invariant-loop-y : goal.invariant-loop-y
invariant-loop-y g l = some_crowded (drop l.y-index l.vars) l.vars (g.V.View.boxes l.view) ≡ some_crowded l.vars l.vars (g.V.View.boxes l.view)
