-- Rows in place of a constraint. What a reader believes after this file: where the known cells have
-- their values, rows hold exactly where a test of the configuration passes.
use Rattle.std.specs.Prelude.{◌≡◌, ℕ, Bool, List, ℤ, take}
use Rattle.ground_form.specs.declared.ground.Ground.{Ground}
use Rattle.form_build.specs.Worlds.{IsWorld, AreKnown}
use Rattle.packed_rows.specs.declared.row.Row.{Row}
use Rattle.packed_rows.specs.Loads.{row_holds, rows_hold}

abbrev pub IsRowWhere : List (ℕ × ℤ) → Ground → (List ℤ → Bool) → Row → Type 0
IsRowWhere known g test r =
    (a : List ℤ) → IsWorld g a → AreKnown known a → test (take g.search a) ≡ row_holds a r

abbrev pub AreRowsWhere : List (ℕ × ℤ) → Ground → (List ℤ → Bool) → List Row → Type 0
AreRowsWhere known g test rows =
    (a : List ℤ) → IsWorld g a → AreKnown known a → test (take g.search a) ≡ rows_hold rows a
