use Rattle.std.proofs.Common.{◌≡◌, length}
use Rattle.conf_core.proofs.part_search.hints_from.Given as goal

-- so many so far
abbrev pub invariant-loop-k : goal.invariant-loop-k
invariant-loop-k l = length l.hints.items ≡ l.k
