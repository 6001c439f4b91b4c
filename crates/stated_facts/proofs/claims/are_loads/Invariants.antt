use Rattle.std.proofs.Common.{All, take}
use Rattle.stated_facts.specs.Claims.{IsLoad}
use Rattle.stated_facts.proofs.claims.are_loads.Given as goal

abbrev pub invariant-loop-t : goal.invariant-loop-t
invariant-loop-t l = All (IsLoad l.boxes l.rises) (take l.t-index l.terms)
