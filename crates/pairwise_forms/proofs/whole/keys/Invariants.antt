use Rattle.std.proofs.Common.{◌≡◌, map, take}
use Rattle.pairwise_forms.proofs.whole.keys.Given as goal

abbrev pub invariant-loop-e : goal.invariant-loop-e
invariant-loop-e l = l.vars.items ≡ map (λ e. e.key) (take l.e-index l.members)
