use Rattle.std.proofs.Common.{◌≡◌, drop, map}
use Rattle.site_faults.specs.Rows.{host_rows_fault}
use Rattle.site_tables.specs.Views.{row_seen}
use Rattle.site_faults.proofs.hosts.host_rows_fault.Given as goal

-- what is left decides
abbrev pub invariant-loop-row : goal.invariant-loop-row
invariant-loop-row l =
    host_rows_fault l.kinds (map row_seen (drop l.row-index l.rows))
    ≡ host_rows_fault l.kinds (map row_seen l.rows)
