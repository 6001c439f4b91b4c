-- From the records of a text to its rows.
use Rattle.std.proofs.Common.{List, ℕ, refl}
use Rattle.csv.specs.Reading.{AreRecords, default_config, strip_bom}
use Rattle.csv.specs.declared.parser.State.TheVariants as st
use Rattle.site_tables.specs.Grid.{grid}
use Rattle.site_drafts.specs.Tables.{HasRows}

pub has_rows : (text : List ℕ) (records : List (List (List ℕ)))
    → AreRecords default_config st.StartRecord (strip_bom text) records
    → HasRows text (grid 0 records)
has_rows text records read = record { records = records; read = read; numbered = refl }
