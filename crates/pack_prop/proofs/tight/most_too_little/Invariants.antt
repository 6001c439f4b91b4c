use Rattle.std.proofs.Common.{◌≤ℤ◌, ◌-ℤ◌, unsigned_abs}
use Rattle.pack_prop.proofs.tight.most_too_little.Given as goal

abbrev pub invariant-loop-i : goal.invariant-loop-i
invariant-loop-i l = record {
  order : l.low.value ≤ℤ l.high.value;
  above : l.fn.ends.0.value ≤ℤ l.low.value;
}

abbrev pub decreases-loop-i : goal.decreases-loop-i
decreases-loop-i l = unsigned_abs (l.high.value -ℤ l.low.value)
