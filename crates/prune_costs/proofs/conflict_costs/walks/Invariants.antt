use Rattle.std.proofs.Common.{◌≤◌, length}
use Rattle.prune_costs.proofs.conflict_costs.walks.Given as goal

abbrev pub invariant-loop-k : goal.invariant-loop-k
invariant-loop-k l = length l.store.top.now ≤ length l.running
