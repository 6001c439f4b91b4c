use Rattle.std.proofs.Common.{◌≡◌, ◌++◌, drop, map}
use Rattle.site_tables.specs.Columns.{host_columns}
use Rattle.site_tables.specs.Views.{cell_seen}
use Rattle.site_tables.proofs.columns.host_columns.Given as goal

-- what is made and what is left to make are all
abbrev pub invariant-loop-cell : goal.invariant-loop-cell
invariant-loop-cell l =
    l.columns.items
    ++ host_columns (map cell_seen l.services) (map cell_seen (drop l.cell-index l.hosts))
    ≡ host_columns (map cell_seen l.services) (map cell_seen l.hosts)
