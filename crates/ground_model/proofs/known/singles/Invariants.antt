use Rattle.std.proofs.Common.{All}
use Rattle.ground_model.specs.Known.{IsSingle}
use Rattle.ground_model.proofs.known.singles.Given as goal

abbrev pub invariant-loop-x : goal.invariant-loop-x
invariant-loop-x l = All (IsSingle l.boxes l.search) l.found.items
