use Rattle.std.proofs.Common.{◌≡◌, drop, map}
use Rattle.site_faults.specs.Meets.{values_fault}
use Rattle.site_tables.specs.Views.{cell_seen, row_seen}
use Rattle.site_faults.proofs.meets.values_fault.Given as goal

-- what is left decides
abbrev pub invariant-loop-cell : goal.invariant-loop-cell
invariant-loop-cell l =
    values_fault l.kinds (map row_seen l.rows) (map cell_seen (drop l.cell-index l.columns))
    ≡ values_fault l.kinds (map row_seen l.rows) (map cell_seen l.columns)
