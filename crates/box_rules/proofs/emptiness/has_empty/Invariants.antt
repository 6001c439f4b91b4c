use Rattle.std.proofs.Common.{◌≡◌, drop}
use Rattle.ground_form.specs.Meaning.{vars_of}
use Rattle.box_rules.specs.Refuted.{some_empty}
use Rattle.box_rules.proofs.emptiness.has_empty.Given as goal

abbrev pub invariant-loop-i : goal.invariant-loop-i
invariant-loop-i g l = some_empty (drop l.i (vars_of l.con)) (g.V.View.boxes l.view) ≡ some_empty (vars_of l.con) (g.V.View.boxes l.view)
