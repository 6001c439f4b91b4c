use Rattle.std.proofs.Common.{◌≡◌, drop}
use Rattle.std.specs.List.{sum_by}
use Rattle.object_alloc.specs.Sums.{of_kind, deep}
use Rattle.object_alloc.proofs.queue.has_deep.Given as goal

abbrev pub invariant-loop-kind : goal.invariant-loop-kind
invariant-loop-kind l = sum_by (of_kind deep) (drop l.kind-index l.queue) ≡ sum_by (of_kind deep) l.queue
