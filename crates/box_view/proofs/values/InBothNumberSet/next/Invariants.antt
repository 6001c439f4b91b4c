use Rattle.std.proofs.Common.{◌≡◌, ◌≤ℤ◌, ◌<ℤ◌, ◌-ℤ◌, ◌&&◌, false, ℤ, pos, unsigned_abs}
use Rattle.box_view.proofs.values.InBothNumberSet.next.Given as goal

abbrev pub invariant-loop-one : goal.invariant-loop-one
invariant-loop-one g l = record {
  begun : l.fn.from.value ≤ℤ l.at.value;
  within : l.at.value ≤ℤ pos 9223372036854775807;
  passed : (u : ℤ) → l.fn.from.value ≤ℤ u → u <ℤ l.at.value → (g.A.NumberSet.holds l.self.a u && g.B.NumberSet.holds l.self.b u) ≡ false;
}

abbrev pub decreases-loop-one : goal.decreases-loop-one
decreases-loop-one g l = unsigned_abs (pos 9223372036854775807 -ℤ l.at.value)
