use Rattle.std.proofs.Common.{◌≡◌, false, drop}
use Rattle.box_rules.specs.Quiet.{quiet_at}
use Rattle.rule_law.proofs.probing.first_culprit.Given as goal

abbrev pub invariant-loop-x : goal.invariant-loop-x
invariant-loop-x l = quiet_at l.con l.boxes (drop l.x-index l.vars) ≡ false
