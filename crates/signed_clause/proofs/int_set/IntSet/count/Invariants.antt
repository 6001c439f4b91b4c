use Rattle.std.proofs.Common.{◌≡◌, ◌+◌, ◌<◌, ◌^◌, drop}
use Rattle.signed_clause.specs.Ranges.{count_of}
use Rattle.signed_clause.proofs.int_set.IntSet.count.Given as goal

abbrev pub invariant-loop-r : goal.invariant-loop-r
invariant-loop-r l = record {
  sum : l.sum + count_of (drop l.r-index l.self) ≡ count_of l.self;
  fits : l.sum < 2 ^ 64;
}
