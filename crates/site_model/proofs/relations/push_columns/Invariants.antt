use Rattle.std.proofs.Common.{◌≡◌, ◌++◌, drop, map}
use Rattle.std.specs.List.{flat_map}
use Rattle.site_model.specs.Pairs.{column_pairs_of}
use Rattle.site_tables.specs.Views.{cell_seen, row_seen}
use Rattle.site_model.proofs.relations.push_columns.Given as goal

-- what is written and what is left to write are all
abbrev pub invariant-loop-cell : goal.invariant-loop-cell
invariant-loop-cell l =
    l.text.items
    ++ flat_map (column_pairs_of l.columns.kinds.now (map cell_seen l.columns.hosts.now)
    (map row_seen l.rows)) (map cell_seen (drop l.cell-index l.columns.services.now))
    ≡ l.initial.text.items
    ++ flat_map (column_pairs_of l.columns.kinds.now (map cell_seen l.columns.hosts.now)
    (map row_seen l.rows)) (map cell_seen l.columns.services.now)
