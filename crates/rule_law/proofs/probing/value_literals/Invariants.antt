use Rattle.std.proofs.Common.{◌≡◌, ◌++◌, drop}
use Rattle.signed_clause.specs.Clauses.{box_of}
use Rattle.box_view.specs.Views.{fixing}
use Rattle.rule_law.specs.Reasons.{kept}
use Rattle.rule_law.proofs.probing.value_literals.Given as goal

abbrev pub invariant-loop-x : goal.invariant-loop-x
invariant-loop-x l = l.literals.items ++ kept l.domains (λ x. box_of (fixing l.boxes l.var l.value.value) x) (drop l.x-index l.vars) ≡ kept l.domains (λ x. box_of (fixing l.boxes l.var l.value.value) x) l.vars
