use Rattle.std.proofs.Common.{◌↔◌, ◌+ℤ◌, ◌≤ℤ◌, pos, drop}
use Rattle.signed_clause.specs.Ranges.{Ascends, IsValid}
use Rattle.signed_clause.proofs.int_set.are_canonical.Given as goal

abbrev pub invariant-loop-r : goal.invariant-loop-r
invariant-loop-r l = record {
  bound : l.least.value ≤ℤ (pos 9223372036854775807 +ℤ pos 2);
  rest : Ascends l.least.value (pos 9223372036854775807) (drop l.r-index l.ranges) ↔ IsValid l.ranges;
}
