-- An answer as CSV: a row for each service, in their order, with its host; with a former
-- configuration the former host too, where it was another one.
use Rattle.std.specs.Prelude.{ℕ, ◌≡◌, List, Option, Some, ⊤}
use Rattle.serde_json.specs.Data.{Data}
use Rattle.site_tables.specs.Grid.{GridRow, behind}
use Rattle.site_tables.specs.declared.fault.Place.{Place}
use Rattle.site_answer.specs.Names.{host_names}
use Rattle.site_answer.specs.Rows.{rows_text, unplaced}
use Rattle.site_answer.specs.declared.table.TableError.{TableError}
use Rattle.site_answer.specs.declared.table.TableError.TheVariants.{Unplaced, Memory}

-- the first service for which the answer has no host of the table
abbrev pub unplaced_in : List GridRow → List GridRow → Data → Option Place
unplaced_in hosts services answer = unplaced (host_names hosts) answer (behind services)

abbrev pub table_text : List GridRow → List GridRow → Data → Option Data → List ℕ
table_text hosts services answer former =
    rows_text (host_names hosts) answer former (behind services)

-- why there is no table
abbrev pub IsNoTable : List GridRow → List GridRow → Data → TableError → Type 0
IsNoTable hosts services answer (Unplaced p) = unplaced_in hosts services answer ≡ Some p
IsNoTable hosts services answer Memory = ⊤
