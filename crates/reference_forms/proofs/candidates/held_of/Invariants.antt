use Rattle.std.proofs.Common.{◌≡◌, ◌++◌, drop}
use Rattle.reference_forms.specs.Candidates.{held}
use Rattle.reference_forms.proofs.candidates.held_of.Given as goal

-- with what is left they are all candidates
abbrev pub invariant-loop-object : goal.invariant-loop-object
invariant-loop-object l = l.map.items ++ held l.set (drop l.object-index l.objects) ≡ held l.set l.objects
