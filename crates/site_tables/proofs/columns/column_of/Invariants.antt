use Rattle.std.proofs.Common.{◌≡◌, drop, map}
use Rattle.site_tables.specs.Columns.{column_of}
use Rattle.site_tables.specs.Views.{cell_seen}
use Rattle.site_tables.proofs.columns.column_of.Given as goal

-- what is left decides
abbrev pub invariant-loop-cell : goal.invariant-loop-cell
invariant-loop-cell l =
    column_of l.text (map cell_seen (drop l.cell-index l.header))
    ≡ column_of l.text (map cell_seen l.header)
