use Rattle.std.proofs.Common.{◌≡◌, false, ◌<◌, ◌≤◌, ◌-◌, [], nat_lt, drop, length, slice_index_or}
use Rattle.signed_clause.specs.Clauses.{set_of, has_var}
use Rattle.signed_clause.proofs.clause.Clause.set_of.Given as goal

-- the literals from low on say of x what the clause says, and the one at high, where there is one,
-- isn't of a lesser variable
abbrev pub invariant-loop-low : goal.invariant-loop-low
invariant-loop-low l = record {
  set : set_of (drop l.low l.lits) l.x ≡ set_of l.self l.x;
  var : has_var (drop l.low l.lits) l.x ≡ has_var l.self l.x;
  reached : l.high < length l.lits → nat_lt (slice_index_or l.lits l.high (0, [])).0 l.x ≡ false;
  ordered : l.low ≤ l.high;
  in_range : l.high ≤ length l.lits;
}

abbrev pub decreases-loop-low : goal.decreases-loop-low
decreases-loop-low l = l.high - l.low
