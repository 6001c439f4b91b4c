use Rattle.linear_prop.specs.Rows.{terms_of}
use Rattle.linear_prop.specs.Explaining.{IsSoFar}
use Rattle.linear_prop.proofs.explain.explain.Given as goal

abbrev pub invariant-loop-i : goal.invariant-loop-i
invariant-loop-i l = IsSoFar (terms_of l.row) l.domains l.boxes l.row.bound.value l.fn.cause.index l.fn.cause.to.value l.i l.out.items l.slack
