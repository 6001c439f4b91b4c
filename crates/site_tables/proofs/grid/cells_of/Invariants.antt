use Rattle.std.proofs.Common.{◌≡◌, ◌++◌, drop, map}
use Rattle.std.specs.List.{enumerate_from}
use Rattle.csv.specs.Records.{fields_of}
use Rattle.site_tables.specs.Views.{cell_seen}
use Rattle.site_tables.proofs.grid.cells_of.Given as goal

-- what is made and what is left to make are all
abbrev pub invariant-loop-column : goal.invariant-loop-column
invariant-loop-column l =
    map cell_seen l.cells.items ++ enumerate_from l.column (drop l.column (fields_of l.fields))
    ≡ enumerate_from 0 (fields_of l.fields)
