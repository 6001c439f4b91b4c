use Rattle.std.proofs.Common.{◌≡◌, length}
use Rattle.prop_queue.specs.Lists.{IsFilled}
use Rattle.prop_queue.proofs.rows.rows_of.Given as goal

abbrev pub invariant-loop-k : goal.invariant-loop-k
invariant-loop-k l = (length l.rows ≡ l.count) × IsFilled l.cons l.rows l.k
