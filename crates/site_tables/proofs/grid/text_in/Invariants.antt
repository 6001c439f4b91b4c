use Rattle.std.proofs.Common.{◌≡◌, drop, map}
use Rattle.site_tables.specs.Grid.{text_in}
use Rattle.site_tables.specs.Views.{cell_seen}
use Rattle.site_tables.proofs.grid.text_in.Given as goal

-- what is left decides
abbrev pub invariant-loop-cell : goal.invariant-loop-cell
invariant-loop-cell l =
    text_in l.column (map cell_seen (drop l.cell-index l.cells))
    ≡ text_in l.column (map cell_seen l.cells)
