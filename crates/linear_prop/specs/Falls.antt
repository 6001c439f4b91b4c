-- How far an explanation lets a term fall. What a reader believes after this file: where no literal
-- is asked of a term, its domain alone keeps it high enough; else the literal's set holds the
-- domain's values at which it would be too low.
use Rattle.std.specs.Prelude.{◌≡◌, ℕ, ◌≤◌, false, ◌&&◌, ℤ, pos, ◌+ℤ◌, ◌-ℤ◌, ◌*ℤ◌, ◌≤ℤ◌, int_lt, Option, Some, None}
use Rattle.std.specs.Int.{int_min, int_max}
use Rattle.signed_clause.specs.Ranges.{Ranges, has, is_nil, IsValid}
use Rattle.ground_form.specs.Bounds.{low_of, high_of}

-- the least and the greatest product of the coefficient with a value of the set
abbrev pub least_at : ℤ → Ranges → ℤ
least_at c s = int_min (c *ℤ low_of s) (c *ℤ high_of s)

abbrev pub greatest_at : ℤ → Ranges → ℤ
greatest_at c s = int_max (c *ℤ low_of s) (c *ℤ high_of s)

-- the domain's values at which the term is below the floor
pub record IsBelow (c floor : ℤ) (domain set : Ranges) : Type 0 where
  pub values : (v : ℤ) → has set v ≡ (has domain v && int_lt (c *ℤ v) floor)
  pub some : is_nil set ≡ false
  pub valid : IsValid set

-- a term that stands at `from` falls by what the slack pays, and no further
abbrev pub IsFall : ℤ → ℤ → ℕ → Ranges → Option Ranges → ℕ → Type 0
IsFall c from slack domain None left =
    (left ≤ slack) × (((from -ℤ pos slack) +ℤ pos left) ≤ℤ least_at c domain)
IsFall c from slack domain (Some set) left =
    (left ≤ slack) × IsBelow c ((from -ℤ pos slack) +ℤ pos left) domain set
