use Rattle.std.proofs.Common.{◌≡◌, ◌≤ℤ◌, ◌<ℤ◌, ◌-ℤ◌, ◌&&◌, false, ℤ, negsuc, unsigned_abs}
use Rattle.box_view.proofs.values.InBothNumberSet.previous.Given as goal

abbrev pub invariant-loop-one : goal.invariant-loop-one
invariant-loop-one g l = record {
  begun : l.at.value ≤ℤ l.fn.from.value;
  within : negsuc 9223372036854775807 ≤ℤ l.at.value;
  passed : (u : ℤ) → l.at.value <ℤ u → u ≤ℤ l.fn.from.value → (g.A.NumberSet.holds l.self.a u && g.B.NumberSet.holds l.self.b u) ≡ false;
}

abbrev pub decreases-loop-one : goal.decreases-loop-one
decreases-loop-one g l = unsigned_abs (l.at.value -ℤ negsuc 9223372036854775807)
