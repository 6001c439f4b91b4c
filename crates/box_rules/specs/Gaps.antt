-- Numbers that a set doesn't have.
use Rattle.std.specs.Prelude.{◌≡◌, ◌≤ℤ◌, ◌<ℤ◌, false, ℤ}
use Rattle.signed_clause.specs.Ranges.{Ranges, has}
use Rattle.box_rules.specs.declared.flags.Gap.{Gap}

-- the set has none of the gap's numbers
abbrev pub IsGap : Ranges → Gap → Type 0
IsGap s gap = (u : ℤ) → gap.from.value ≤ℤ u → u <ℤ gap.to.value → has s u ≡ false
