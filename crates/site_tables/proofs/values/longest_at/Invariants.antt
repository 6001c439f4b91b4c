use Rattle.std.proofs.Common.{◌≡◌, drop, map}
use Rattle.site_tables.specs.Values.{longest_at}
use Rattle.site_tables.specs.Views.{row_seen}
use Rattle.site_tables.proofs.values.longest_at.Given as goal

-- what was seen, with the rows that are left, decides
abbrev pub invariant-loop-row : goal.invariant-loop-row
invariant-loop-row l =
    longest_at l.column l.longest (map row_seen (drop l.row-index l.rows))
    ≡ longest_at l.column 1 (map row_seen l.rows)
