use Rattle.std.proofs.Common.{◌≡◌, [], drop, map}
use Rattle.site_tables.specs.Values.{values_at}
use Rattle.site_tables.specs.Views.{row_seen}
use Rattle.site_tables.proofs.values.values_at.Given as goal

-- what was seen, with the rows that are left, decides
abbrev pub invariant-loop-row : goal.invariant-loop-row
invariant-loop-row l =
    values_at l.column l.values (map row_seen (drop l.row-index l.rows))
    ≡ values_at l.column [] (map row_seen l.rows)
