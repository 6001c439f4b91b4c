use Rattle.std.proofs.Common.{◌≡◌, ◌++◌, drop, map}
use Rattle.site_tables.specs.Columns.{service_columns}
use Rattle.site_tables.specs.Views.{cell_seen}
use Rattle.site_tables.proofs.columns.service_columns.Given as goal

-- what is made and what is left to make are all
abbrev pub invariant-loop-cell : goal.invariant-loop-cell
invariant-loop-cell l =
    l.columns.items
    ++ service_columns (map cell_seen l.hosts) (map cell_seen l.services)
    (map cell_seen (drop l.cell-index l.services))
    ≡ service_columns (map cell_seen l.hosts) (map cell_seen l.services)
    (map cell_seen l.services)
