use Rattle.std.proofs.Common.{◌≡◌, drop}
use Rattle.rule_law.specs.Repeats.{all_one}
use Rattle.rule_law.proofs.repeats.are_all_one.Given as goal

abbrev pub invariant-loop-x : goal.invariant-loop-x
invariant-loop-x l = all_one (drop l.x-index l.vars) l.boxes ≡ all_one l.vars l.boxes
