use Rattle.std.proofs.Common.{◌≡◌, drop, map}
use Rattle.site_faults.specs.Rows.{service_cells_fault}
use Rattle.site_tables.specs.Views.{cell_seen}
use Rattle.site_faults.proofs.services.service_cells_fault.Given as goal

-- what is left decides
abbrev pub invariant-loop-cell : goal.invariant-loop-cell
invariant-loop-cell l =
    service_cells_fault l.known l.kinds l.row (map cell_seen (drop l.cell-index l.cells))
    ≡ service_cells_fault l.known l.kinds l.row (map cell_seen l.cells)
