use Rattle.std.proofs.Common.{◌≡◌, ◌++◌, drop}
use Rattle.conf_session.specs.Keys.{range_ends}
use Rattle.conf_session.proofs.stated.push_ends.Given as goal

abbrev pub invariant-loop-range : goal.invariant-loop-range
invariant-loop-range l = l.words.items ++ range_ends (drop l.range-index l.ranges) ≡ l.fn.words.items ++ range_ends l.ranges
