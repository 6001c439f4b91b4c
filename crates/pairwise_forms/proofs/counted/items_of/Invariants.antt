use Rattle.std.proofs.Common.{◌≡◌, map, take}
use Rattle.pairwise_forms.proofs.counted.items_of.Given as goal

abbrev pub invariant-loop-x : goal.invariant-loop-x
invariant-loop-x l = l.items.items ≡ map (λ x. (x, l.one, l.one)) (take l.x-index l.vars)
