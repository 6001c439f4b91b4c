use Rattle.std.proofs.Common.{◌≡◌, ◌++◌, drop}
use Rattle.reference_forms.specs.Lists.{chosen_parts}
use Rattle.reference_forms.proofs.lists.chosen_parts.Given as goal

-- with those of what is left they are all
abbrev pub invariant-loop-p : goal.invariant-loop-p
invariant-loop-p l = l.members.items ++ chosen_parts l.objects l.x l.k (drop l.p-index l.pairs) ≡ chosen_parts l.objects l.x l.k l.pairs
