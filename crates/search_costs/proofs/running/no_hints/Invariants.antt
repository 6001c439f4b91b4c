use Rattle.std.proofs.Common.{◌≡◌, length}
use Rattle.search_costs.proofs.running.no_hints.Given as goal

abbrev pub invariant-loop : goal.invariant-loop
invariant-loop l = length l.hints.items ≡ l.counter
