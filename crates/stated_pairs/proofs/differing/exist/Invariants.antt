use Rattle.std.proofs.Common.{◌<◌, All, take, length}
use Rattle.stated_pairs.proofs.differing.exist.Given as goal

abbrev pub invariant-loop-x : goal.invariant-loop-x
invariant-loop-x l = All (λ x. x < length l.maker.domains) (take l.x-index l.vars)
