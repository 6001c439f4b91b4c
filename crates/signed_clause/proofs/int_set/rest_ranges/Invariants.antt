use Rattle.std.proofs.Common.{◌≡◌, ◌++◌, drop}
use Rattle.signed_clause.specs.SetAlgebra.{less}
use Rattle.signed_clause.proofs.int_set.rest_ranges.Given as goal

abbrev pub invariant-loop-r : goal.invariant-loop-r
invariant-loop-r l = l.out.items ++ less (drop l.r-index l.a) (drop l.j l.b) ≡ less l.a l.b
