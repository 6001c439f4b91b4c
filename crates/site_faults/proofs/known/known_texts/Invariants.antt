use Rattle.std.proofs.Common.{◌≡◌, ◌++◌, drop, map}
use Rattle.site_faults.specs.Known.{known_texts}
use Rattle.site_tables.specs.Views.{cell_seen, row_seen}
use Rattle.site_faults.proofs.known.known_texts.Given as goal

-- what is made and what is left to make are all
abbrev pub invariant-loop-cell : goal.invariant-loop-cell
invariant-loop-cell l =
    l.known.items ++ known_texts (map row_seen l.rows) (map cell_seen (drop l.cell-index l.columns))
    ≡ known_texts (map row_seen l.rows) (map cell_seen l.columns)
