use Rattle.std.proofs.Common.{◌≡◌, drop, map}
use Rattle.site_tables.specs.Views.{row_seen}
use Rattle.site_today.specs.Faults.{rows_fault}
use Rattle.site_today.proofs.rows.rows_fault.Given as goal

-- what is left decides
abbrev pub invariant-loop-row : goal.invariant-loop-row
invariant-loop-row l =
    rows_fault l.known.services l.known.hosts l.columns (map row_seen (drop l.row-index l.rows))
    ≡ rows_fault l.known.services l.known.hosts l.columns (map row_seen l.rows)
