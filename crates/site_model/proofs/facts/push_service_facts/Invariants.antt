use Rattle.std.proofs.Common.{◌≡◌, ◌++◌, drop, map}
use Rattle.std.specs.List.{flat_map}
use Rattle.site_model.specs.Facts.{service_fact}
use Rattle.site_tables.specs.Views.{cell_seen}
use Rattle.site_model.proofs.facts.push_service_facts.Given as goal

-- what is written and what is left to write are all
abbrev pub invariant-loop-cell : goal.invariant-loop-cell
invariant-loop-cell l =
    l.text.items
    ++ flat_map (service_fact l.columns.kinds.now (map cell_seen l.columns.hosts.now)
    (map cell_seen l.columns.services.now) l.name) (map cell_seen (drop l.cell-index l.cells))
    ≡ l.initial.text.items
    ++ flat_map (service_fact l.columns.kinds.now (map cell_seen l.columns.hosts.now)
    (map cell_seen l.columns.services.now) l.name) (map cell_seen l.cells)
