-- Pairs of variables that differ. What a reader believes after this file: such a pair has two
-- values in every world in which all constraints hold.
use Rattle.std.specs.Prelude.{◌≢◌, ℕ, List, ℤ}
use Rattle.ground_form.specs.declared.ground.Ground.{Ground}
use Rattle.ground_form.specs.Meaning.{value_of}
use Rattle.form_build.specs.Worlds.{IsWorld, AllHold}

abbrev pub IsApart : Ground → ℕ × ℕ → Type 0
IsApart g p = (a : List ℤ) → IsWorld g a → AllHold g a → value_of a p.0 ≢ value_of a p.1
