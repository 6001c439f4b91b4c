use Rattle.std.proofs.Common.{◌≡◌, ◌++◌, drop}
use Rattle.rule_law.specs.Plans.{literals_of}
use Rattle.rule_law.proofs.plan.planned_pruning.Given as goal

abbrev pub invariant-loop-e : goal.invariant-loop-e
invariant-loop-e l = l.literals.items ++ literals_of l.domains (drop l.e-index l.plan) ≡ literals_of l.domains l.plan
