use Rattle.std.proofs.Common.{◌≡◌, ◌-◌, drop, length}
use Rattle.signed_clause.specs.Ranges.{Ranges}
use Rattle.signed_clause.specs.SetAlgebra.{less_from}
use Rattle.signed_clause.proofs.int_set.covered.Given as goal

abbrev pub invariant-loop-j : goal.invariant-loop-j
invariant-loop-j l = (rest : Ranges → Ranges) → less_from rest l.part.0 l.part.1 (drop l.j l.b) ≡ less_from rest l.fn.r.0 l.fn.r.1 (drop l.fn.from l.b)

abbrev pub decreases-loop-j : goal.decreases-loop-j
decreases-loop-j l = length l.b - l.j
