-- Rows of a problem. What a reader believes after this file: which sums are at most 0 wherever all
-- constraints hold, and which are 0 there, or lie on one side of it.
use Rattle.std.specs.Prelude.{◌≡◌, ◌^◌, Bool, true, false, List, ℤ, pos, ◌≤ℤ◌}
use Rattle.ground_form.specs.declared.ground.Ground.{Ground}
use Rattle.form_build.specs.declared.form.Linear.{Linear}
use Rattle.form_build.specs.Forms.{linear_at}
use Rattle.form_build.specs.Sums.{IsLinear}
use Rattle.form_build.specs.Worlds.{IsWorld, AllHold}
use Rattle.stated_facts.specs.declared.noughts.Nought.{Nought}

-- where all constraints hold the sum is at most 0
abbrev pub Follows : Ground → Linear → Type 0
Follows g f = (a : List ℤ) → IsWorld g a → AllHold g a → linear_at f a ≤ℤ pos 0

-- where all constraints hold the sum is at least 0
abbrev pub IsAbove : Ground → Linear → Type 0
IsAbove g f = (a : List ℤ) → IsWorld g a → AllHold g a → pos 0 ≤ℤ linear_at f a

-- where all constraints hold the sum is 0
abbrev pub IsZero : Ground → Linear → Type 0
IsZero g f = (a : List ℤ) → IsWorld g a → AllHold g a → linear_at f a ≡ pos 0

-- where all constraints hold the sum, whose numbers are small, is at most 0 where it may be added
-- to a row, and at least 0 where it may be taken away
pub record IsNought (g : Ground) (z : Nought) : Type 0 where
  pub linear : IsLinear (2 ^ 20) g.domains z.sum
  pub adds : z.adds ≡ true → Follows g z.sum
  pub takes : z.takes ≡ true → IsAbove g z.sum

-- it may be added, or taken away
pub record IsAllowed (z : Nought) (rises : Bool) : Type 0 where
  pub up : rises ≡ true → z.adds ≡ true
  pub down : rises ≡ false → z.takes ≡ true
