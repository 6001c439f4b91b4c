-- The problem of a repair beside the one that it was made of. What a reader believes after this
-- file: the old variables, constraints and goals stand in it, in their order, with new ones behind,
-- and one goal more in front.
use Rattle.std.specs.Prelude.{◌≡◌, ℕ, ◌+◌, ◌<◌, false, List, ◌∷◌, ◌++◌, ℤ, length}
use Rattle.signed_clause.specs.Clauses.{Boxes}
use Rattle.ground_form.specs.declared.con.Con.{Con}
use Rattle.ground_form.specs.declared.ground.Ground.{Ground}
use Rattle.ground_form.specs.declared.ground.GroundGoal.{GroundGoal}
use Rattle.ground_form.specs.Meaning.{value_of}
use Rattle.ground_form.specs.WellMade.{IsWellMade}
use Rattle.ground_build.specs.Growing.{with_goals}
use Rattle.form_build.specs.Worlds.{IsWorld, Defines, IsFew}
use Rattle.reconfigure.specs.declared.count.Count.{Count}
use Rattle.reconfigure.specs.Counting.{count_at}

-- to make the variable as small as can be
abbrev pub least : ℕ → GroundGoal
least x = record { var = x; max = false }

pub record Extends (old new : Ground) : Type 0 where
  pub search : new.search ≡ old.search
  pub more : Boxes
  pub domains : new.domains ≡ old.domains ++ more
  pub added : List Con
  pub cons : new.cons ≡ old.cons ++ added
  pub changes : ℕ
  pub goals : new.goals ≡ least changes ∷ old.goals

-- one variable more, which is the count in every world, is to be made as small as can be, before
-- these goals
pub record IsCounted (old : Ground) (c : Count) (goals : List GroundGoal) (new : Ground) : Type 0 where
  pub variable : ℕ
  pub made : Ground
  pub adds : Defines old made
  pub few : IsFew (length c.terms.items + 1) old made
  pub exists : variable < length made.domains
  pub value : (a : List ℤ) → IsWorld made a → value_of a variable ≡ count_at c a
  pub is : new ≡ with_goals made (least variable ∷ goals)
  pub well_made : IsWellMade new
