use Rattle.std.proofs.Common.{◌≡◌, ℕ, List, None, drop, map}
use Rattle.site_tables.specs.Views.{row_seen}
use Rattle.site_texts.specs.Pairs.{last_under, under}
use Rattle.site_today.specs.Standing.{standing}
use Rattle.site_today.proofs.standing.standings.Given as goal

-- what was found, with the rows that are left, decides
abbrev pub invariant-loop-row : goal.invariant-loop-row
invariant-loop-row l =
    (q : List ℕ)
    → last_under q (under q l.texts) (map (standing l.columns) (map row_seen (drop l.row-index l.rows)))
    ≡ last_under q None (map (standing l.columns) (map row_seen l.rows))
