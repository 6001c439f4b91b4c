-- The first and the last of the numbers of 64 bits that pass a test.
use Rattle.std.specs.Prelude.{◌≡◌, Bool, true, false, ℤ, pos, negsuc, ◌≤ℤ◌, ◌<ℤ◌, ◌+ℤ◌, ◌-ℤ◌}
use Rattle.signed_clause.specs.Ranges.{Ranges, has, in_range}

-- w passes, and is the first from v on that does
pub record IsFirst (test : ℤ → Bool) (v w : ℤ) : Type 0 where
  pub passes : test w ≡ true
  pub from : v ≤ℤ w
  pub none_before : (u : ℤ) → v ≤ℤ u → u <ℤ w → test u ≡ false

-- none passes from v on
abbrev pub HasNoneFrom : (ℤ → Bool) → ℤ → Type 0
HasNoneFrom test v = (u : ℤ) → v ≤ℤ u → u ≤ℤ pos 9223372036854775807 → test u ≡ false

-- w passes, and is the last up to v that does
pub record IsLast (test : ℤ → Bool) (v w : ℤ) : Type 0 where
  pub passes : test w ≡ true
  pub upto : w ≤ℤ v
  pub none_after : (u : ℤ) → w <ℤ u → u ≤ℤ v → test u ≡ false

-- none passes up to v
abbrev pub HasNoneTo : (ℤ → Bool) → ℤ → Type 0
HasNoneTo test v = (u : ℤ) → negsuc 9223372036854775807 ≤ℤ u → u ≤ℤ v → test u ≡ false

-- r is the first range of the set that reaches v
pub record IsReaching (rs : Ranges) (v : ℤ) (r : ℤ × ℤ) : Type 0 where
  pub order : r.0 ≤ℤ r.1
  pub reaches : v ≤ℤ r.1
  pub values : (u : ℤ) → v ≤ℤ u → in_range r u ≡ true → has rs u ≡ true
  pub none_before : (u : ℤ) → v ≤ℤ u → u <ℤ r.0 → has rs u ≡ false
  pub none_behind : has rs (r.1 +ℤ pos 1) ≡ false

-- r is the last range of the set that begins by v
pub record IsBegun (rs : Ranges) (v : ℤ) (r : ℤ × ℤ) : Type 0 where
  pub order : r.0 ≤ℤ r.1
  pub begins : r.0 ≤ℤ v
  pub values : (u : ℤ) → u ≤ℤ v → in_range r u ≡ true → has rs u ≡ true
  pub none_after : (u : ℤ) → r.1 <ℤ u → u ≤ℤ v → has rs u ≡ false
  pub none_ahead : has rs (r.0 -ℤ pos 1) ≡ false
