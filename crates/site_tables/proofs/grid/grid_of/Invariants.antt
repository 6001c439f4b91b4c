use Rattle.std.proofs.Common.{◌≡◌, ◌++◌, drop, map}
use Rattle.csv.specs.Records.{fields_of}
use Rattle.site_tables.specs.Grid.{grid}
use Rattle.site_tables.specs.Views.{row_seen}
use Rattle.site_tables.proofs.grid.grid_of.Given as goal

-- what is made and what is left to make are all
abbrev pub invariant-loop-number : goal.invariant-loop-number
invariant-loop-number l =
    map row_seen l.rows.items ++ grid l.number (map fields_of (drop l.number l.records))
    ≡ grid 0 (map fields_of l.records)
