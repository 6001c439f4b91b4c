-- What a session has come to, and which values it goes by.
use Rattle.std.specs.Prelude.{◌≡◌, ℕ, Bool, true, false, ◌+◌, ◌^◌, ◌≤◌, List, ℤ, Option, None, Some, length, map, take}
use Rattle.class_table.specs.Outline.{Outline}
use Rattle.ground_cells.specs.CellBoxes.{cell_boxes}
use Rattle.ground_form.specs.StandsFor.{StandsFor}
use Rattle.ground_form.specs.WellMade.{IsWellMade}
use Rattle.ground_form.specs.declared.ground.Ground.{Ground}
use Rattle.log_check.specs.Verdicts.{Ending}
use Rattle.reconfigure.specs.Failing.{unknown_word}
use Rattle.command_limits.specs.Limits.{most_kept}

-- the problem of the model with the clauses that were kept, the former values, the words that stand
-- as failed, and how many constraints the problem had at first
pub record Standing : Type 0 where
  pub ground : Ground
  pub former : List (Option ℤ)
  pub failed : List (List ℕ)
  pub begun : ℕ

-- what every session keeps: the problem is well made and holds at most so many kept clauses, and
-- there is a former value, or none, for each searched variable
pub record IsStanding (s : Standing) : Type 0 where
  pub well_made : IsWellMade s.ground
  pub hints : length s.former ≡ s.ground.search
  pub few : s.begun ≤ 2 ^ 31
  pub grown : s.begun ≤ length s.ground.cons
  pub kept : length s.ground.cons ≤ s.begun + most_kept

-- it is a session over these objects: its problem stands for some question about configurations,
-- one value for each of their cells, and each word that stands as failed names one of them
pub record IsOver (o : Outline) (s : Standing) : Type 0 where
  pub test : List ℤ → Bool
  pub functions : List (Bool × (List ℤ → ℤ))
  pub stands : StandsFor s.ground (cell_boxes o) test functions
  pub failed : unknown_word o s.failed ≡ None

-- those behind a search: where it has ended and found something the values found last, else those
-- before
abbrev pub former_by : ℕ → List (Option ℤ) → Bool → Option (List ℤ) → List (Option ℤ)
former_by n former true (Some a) = map Some (take n a)
former_by n former true None = former
former_by n former false found = former

-- those behind a round with this verdict
abbrev pub former_behind : ℕ → List (Option ℤ) → Ending → List (Option ℤ)
former_behind n former verdict = former_by n former verdict.closed verdict.found
