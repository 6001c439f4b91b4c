use Rattle.std.proofs.Common.{◌≡◌, ◌++◌, drop, map}
use Rattle.site_tables.specs.Grid.{text_at}
use Rattle.site_tables.specs.Views.{row_seen}
use Rattle.site_today.proofs.today.texts_at.Given as goal

-- what is made and what is left to make are all
abbrev pub invariant-loop-row : goal.invariant-loop-row
invariant-loop-row l =
    map (λ t. t.items) l.texts.items ++ map (text_at l.column) (map row_seen (drop l.row-index l.rows))
    ≡ map (text_at l.column) (map row_seen l.rows)
