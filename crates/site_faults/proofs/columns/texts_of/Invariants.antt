use Rattle.std.proofs.Common.{◌≡◌, ◌++◌, drop, map}
use Rattle.site_tables.specs.Views.{cell_seen}
use Rattle.site_faults.proofs.columns.texts_of.Given as goal

-- what is made and what is left to make are all
abbrev pub invariant-loop-cell : goal.invariant-loop-cell
invariant-loop-cell l =
    map (λ t. t.items) l.texts.items ++ map (λ c. c.1) (map cell_seen (drop l.cell-index l.cells))
    ≡ map (λ c. c.1) (map cell_seen l.cells)
