-- How far the walk over a quantifier's bodies has come.
use Rattle.std.specs.Prelude.{◌≡◌, ℕ, ◌+◌, ◌-◌, ◌≤◌, nat_eq, Bool, ◌&&◌, Option, Some}
use Rattle.class_table.specs.Outline.{Outline}
use Rattle.conf_types.specs.Trees.{Bodies, NoBody, Body}
use Rattle.conf_limits.specs.declared.limit.Measured.{Measured}
use Rattle.conf_limits.specs.declared.measure.Bodies.{Bodies as BodiesMeasure}
use Rattle.conf_limits.specs.Limits.{AreBodiesThere, bodies_size, capped, chosen, kept}
use Rattle.conf_limits.specs.Measures.{Interval, bodies_weight, interval, narrow, none}

-- the wanted interval, from one that was found before the bodies from number k on
abbrev pub joined : Outline → Option Interval → Bodies → ℕ → ℕ → Option Interval
joined o found NoBody k wanted = found
joined o found (Body e bs) k wanted =
    joined o (chosen (nat_eq k wanted) found (kept (narrow o e) (interval o e))) bs (k + 1) wanted

-- with what is left, from number k on, it is that of all
pub record IsMeasuring (o : Outline) (wanted : ℕ) (m : BodiesMeasure) (k : ℕ) (left all : Bodies) : Type 0 where
  pub there : AreBodiesThere o left
  pub small : bodies_size left ≤ bodies_size all
  pub light : bodies_weight o left ≤ bodies_weight o all
  pub weight_is : m.weight ≡ capped (bodies_weight o all - bodies_weight o left)
  pub interval_is : joined o m.interval left k wanted ≡ joined o (Some none) all 0 wanted

-- with what is left of some constraints or objectives it is that of all
pub record IsTotalling (m : Measured) (left all : ℕ) (left_narrow all_narrow : Bool) : Type 0 where
  pub light : left ≤ all
  pub weight_is : m.weight ≡ capped (all - left)
  pub narrow_is : m.narrow && left_narrow ≡ all_narrow
