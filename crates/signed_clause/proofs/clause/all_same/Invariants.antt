use Rattle.std.proofs.Common.{◌≡◌, length, take}
use Rattle.signed_clause.proofs.clause.all_same.Given as goal

-- the literals that were passed are the same
abbrev pub invariant-loop-k : goal.invariant-loop-k
invariant-loop-k l = record {
  lengths : length l.a ≡ length l.b;
  front : take l.k l.a ≡ take l.k l.b;
}
