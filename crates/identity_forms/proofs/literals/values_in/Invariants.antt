use Rattle.std.proofs.Common.{◌≡◌, ◌++◌, pos, drop}
use Rattle.signed_clause.specs.Ranges.{has}
use Rattle.identity_forms.specs.Choices.{values_where}
use Rattle.identity_forms.proofs.literals.values_in.Given as goal

abbrev pub invariant-loop-pair : goal.invariant-loop-pair
invariant-loop-pair l = l.values.items ++ values_where (λ n. has l.set (pos n)) (drop l.pair-index l.map) ≡ values_where (λ n. has l.set (pos n)) l.map
