use Rattle.std.proofs.Common.{◌≡◌, ◌++◌, drop}
use Rattle.signed_clause.specs.Clauses.{box_of}
use Rattle.rule_law.specs.Reasons.{kept}
use Rattle.rule_law.proofs.probing.box_literals.Given as goal

abbrev pub invariant-loop-x : goal.invariant-loop-x
invariant-loop-x l = l.literals.items ++ kept l.domains (λ x. box_of l.boxes x) (drop l.x-index l.vars) ≡ kept l.domains (λ x. box_of l.boxes x) l.vars
