use Rattle.std.specs.List.{All}
use Rattle.packing_sums.specs.Hosts.{IsHost}
use Rattle.packing_sums.proofs.used.hosts_of.Given as goal

abbrev pub invariant-loop-t : goal.invariant-loop-t
invariant-loop-t l = All (IsHost l.maker l.p) l.hosts.items
