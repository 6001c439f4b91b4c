use Rattle.std.proofs.Common.{◌≡◌, ◌++◌, drop, map}
use Rattle.std.specs.List.{flat_map}
use Rattle.site_model.specs.Facts.{host_lines}
use Rattle.site_tables.specs.Views.{cell_seen, row_seen}
use Rattle.site_model.proofs.facts.push_hosts.Given as goal

-- what is written and what is left to write are all
abbrev pub invariant-loop-row : goal.invariant-loop-row
invariant-loop-row l =
    l.text.items
    ++ flat_map (host_lines l.kinds (map cell_seen l.columns)) (map row_seen (drop l.row-index l.rows))
    ≡ l.initial.text.items
    ++ flat_map (host_lines l.kinds (map cell_seen l.columns)) (map row_seen l.rows)
