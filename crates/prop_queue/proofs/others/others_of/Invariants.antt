use Rattle.std.proofs.Common.{◌≡◌, ◌++◌, drop}
use Rattle.prop_queue.specs.Work.{others_from}
use Rattle.prop_queue.proofs.others.others_of.Given as goal

abbrev pub invariant-loop-k : goal.invariant-loop-k
invariant-loop-k l = l.others.items ++ others_from l.k (drop l.k l.cons) ≡ others_from 0 l.cons
