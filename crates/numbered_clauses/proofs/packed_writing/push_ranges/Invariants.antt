use Rattle.std.proofs.Common.{◌≡◌, ◌++◌, drop}
use Rattle.std.specs.List.{AllByRecursion}
use Rattle.numbered_clauses.specs.Coded.{ranges_bytes, FitsRange}
use Rattle.numbered_clauses.proofs.packed_writing.push_ranges.Given as goal

abbrev pub invariant-loop-r : goal.invariant-loop-r
invariant-loop-r l = record {
  bytes : l.out.items ++ ranges_bytes (drop l.r-index l.ranges) ≡ l.initial.out.items ++ ranges_bytes l.ranges;
  fits : AllByRecursion FitsRange (drop l.r-index l.ranges) → AllByRecursion FitsRange l.ranges;
}
