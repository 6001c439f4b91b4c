use Rattle.std.proofs.Common.{List, ℤ, take}
use Rattle.ground_model.specs.Adding.{shares_of, counts}
use Rattle.ground_model.proofs.loads.row_from.Given as goal

abbrev pub invariant-loop-p : goal.invariant-loop-p
invariant-loop-p l = (a : List ℤ) → counts l.row l.fn.room.value (shares_of l.kind (take l.p-index l.parts) a) a
