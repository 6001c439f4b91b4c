use Rattle.std.proofs.Common.{◌≡◌, drop, map}
use Rattle.site_faults.specs.Columns.{host_columns_fault}
use Rattle.site_tables.specs.Views.{cell_seen}
use Rattle.site_faults.proofs.columns.host_columns_fault.Given as goal

-- what is left decides
abbrev pub invariant-loop-cell : goal.invariant-loop-cell
invariant-loop-cell l =
    host_columns_fault (map cell_seen l.services) (map cell_seen (drop l.cell-index l.hosts))
    ≡ host_columns_fault (map cell_seen l.services) (map cell_seen l.hosts)
