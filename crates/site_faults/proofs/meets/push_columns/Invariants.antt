use Rattle.std.proofs.Common.{◌≡◌, ◌++◌, drop, map}
use Rattle.std.specs.List.{flat_map}
use Rattle.site_faults.specs.Meets.{entry_seen, column_entries}
use Rattle.site_tables.specs.Views.{cell_seen}
use Rattle.site_faults.proofs.meets.push_columns.Given as goal

-- what is made and what is left to make are all
abbrev pub invariant-loop-cell : goal.invariant-loop-cell
invariant-loop-cell l =
    map entry_seen l.list.items ++ flat_map (column_entries l.kinds) (map cell_seen (drop l.cell-index l.cells))
    ≡ map entry_seen l.initial.list.items ++ flat_map (column_entries l.kinds) (map cell_seen l.cells)
