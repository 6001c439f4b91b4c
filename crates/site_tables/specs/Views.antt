-- Rows and cells, as contracts see them.
use Rattle.std.specs.Prelude.{map}
use Rattle.site_tables.specs.Grid.{GridCell, GridRow}
use Rattle.site_tables.specs.declared.grid.Cell.{Cell}
use Rattle.site_tables.specs.declared.grid.Row.{Row}

abbrev pub cell_seen : Cell → GridCell
cell_seen c = (c.column, c.text.now)

abbrev pub row_seen : Row → GridRow
row_seen r = (r.number, map cell_seen r.cells.items)
