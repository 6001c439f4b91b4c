use Rattle.std.proofs.Common.{◌≡◌, take}
use Rattle.ground_form.proofs.ground.copy_cons.Given as goal

abbrev pub invariant-loop-con : goal.invariant-loop-con
invariant-loop-con l = l.out.items ≡ take l.con-index l.cons
