use Rattle.std.proofs.Common.{◌≡◌, drop}
use Rattle.bound_search.specs.Awaited.{holds_in}
use Rattle.bound_search.proofs.awaited.holds.Given as goal

abbrev pub invariant-loop-l : goal.invariant-loop-l
invariant-loop-l l = holds_in l.boxes (drop l.l-index l.l-items) ≡ holds_in l.boxes l.c
