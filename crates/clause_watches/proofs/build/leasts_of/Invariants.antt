use Rattle.std.proofs.Common.{◌≡◌, length}
use Rattle.clause_watches.proofs.build.leasts_of.Given as goal

abbrev pub invariant-loop-domain : goal.invariant-loop-domain
invariant-loop-domain l = length l.leasts.items ≡ l.domain-index
