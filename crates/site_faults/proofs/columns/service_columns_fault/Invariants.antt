use Rattle.std.proofs.Common.{◌≡◌, drop, map}
use Rattle.site_faults.specs.Columns.{service_columns_fault}
use Rattle.site_tables.specs.Views.{cell_seen}
use Rattle.site_faults.proofs.columns.service_columns_fault.Given as goal

-- what is left decides
abbrev pub invariant-loop-cell : goal.invariant-loop-cell
invariant-loop-cell l =
    service_columns_fault (map cell_seen l.hosts) (map cell_seen l.services) (map cell_seen (drop l.cell-index l.services))
    ≡ service_columns_fault (map cell_seen l.hosts) (map cell_seen l.services) (map cell_seen l.services)
