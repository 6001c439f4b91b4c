use Rattle.std.proofs.Common.{◌≡◌, drop}
use Rattle.rule_law.specs.Reasons.{has_number}
use Rattle.rule_law.proofs.repeats.has_var.Given as goal

abbrev pub invariant-loop-y : goal.invariant-loop-y
invariant-loop-y l = has_number l.x (drop l.y-index l.vars) ≡ has_number l.x l.vars
