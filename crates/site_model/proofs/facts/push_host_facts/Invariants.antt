use Rattle.std.proofs.Common.{◌≡◌, ◌++◌, drop, map}
use Rattle.std.specs.List.{flat_map}
use Rattle.site_model.specs.Facts.{host_fact}
use Rattle.site_tables.specs.Views.{cell_seen}
use Rattle.site_model.proofs.facts.push_host_facts.Given as goal

-- what is written and what is left to write are all
abbrev pub invariant-loop-cell : goal.invariant-loop-cell
invariant-loop-cell l =
    l.text.items
    ++ flat_map (host_fact l.kinds (map cell_seen l.columns) l.name) (map cell_seen (drop l.cell-index l.cells))
    ≡ l.initial.text.items
    ++ flat_map (host_fact l.kinds (map cell_seen l.columns) l.name) (map cell_seen l.cells)
