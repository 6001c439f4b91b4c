use Rattle.std.proofs.Common.{◌≡◌, length}
use Rattle.clause_watches.proofs.build.none_held.Given as goal

abbrev pub invariant-loop : goal.invariant-loop
invariant-loop l = length l.held.items ≡ l.counter
