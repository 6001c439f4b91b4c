use Rattle.std.proofs.Common.{All, Contains, take}
use Rattle.stated_pairs.proofs.differing.is_apart_from.Given as goal

abbrev pub invariant-loop-v : goal.invariant-loop-v
invariant-loop-v l = All (λ v. Contains l.pairs (l.u, v)) (take l.v-index l.others)
