use Rattle.std.proofs.Common.{◌≡◌, ◌++◌, drop, map}
use Rattle.std.specs.List.{flat_map}
use Rattle.site_model.specs.Facts.{service_lines}
use Rattle.site_tables.specs.Views.{cell_seen, row_seen}
use Rattle.site_model.proofs.facts.push_services.Given as goal

-- what is written and what is left to write are all
abbrev pub invariant-loop-row : goal.invariant-loop-row
invariant-loop-row l =
    l.text.items
    ++ flat_map (service_lines l.columns.kinds.now (map cell_seen l.columns.hosts.now)
    (map cell_seen l.columns.services.now)) (map row_seen (drop l.row-index l.rows))
    ≡ l.initial.text.items
    ++ flat_map (service_lines l.columns.kinds.now (map cell_seen l.columns.hosts.now)
    (map cell_seen l.columns.services.now)) (map row_seen l.rows)
