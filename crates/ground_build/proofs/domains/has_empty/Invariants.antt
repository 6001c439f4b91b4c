use Rattle.std.proofs.Common.{◌≡◌, drop}
use Rattle.ground_build.specs.NewDomains.{some_empty}
use Rattle.ground_build.proofs.domains.has_empty.Given as goal

abbrev pub invariant-loop-t : goal.invariant-loop-t
invariant-loop-t l = some_empty (drop l.t-index l.terms) l.boxes ≡ some_empty l.terms l.boxes
