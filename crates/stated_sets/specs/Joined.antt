-- Sets that are stated of variables. What a reader believes after this file: wherever all
-- constraints hold, the variable's value is in such a set.
use Rattle.std.specs.Prelude.{◌≡◌, ◌<◌, ℕ, true, List, ℤ, length}
use Rattle.std.specs.List.{All}
use Rattle.signed_clause.specs.Ranges.{Ranges, has}
use Rattle.signed_clause.specs.Clauses.{Boxes, box_of}
use Rattle.ground_form.specs.declared.ground.Ground.{Ground}
use Rattle.ground_form.specs.Meaning.{value_of}
use Rattle.form_build.specs.Worlds.{IsWorld, AllHold}
use Rattle.stated_sets.specs.declared.joined.Joining.{Joining}

abbrev pub IsStated : Ground → ℕ × Ranges → Type 0
IsStated g l = (a : List ℤ) → IsWorld g a → AllHold g a → has l.1 (value_of a l.0) ≡ true

-- so it is for each of the first variables
abbrev pub AreStated : Ground → Boxes → Type 0
AreStated g sets = (x : ℕ) → x < length sets → IsStated g (x, box_of sets x)

pub record IsJoining (g : Ground) (j : Joining) : Type 0 where
  pub sets : AreStated g j.sets.items
  pub blocks : All (IsStated g) j.blocks.items
