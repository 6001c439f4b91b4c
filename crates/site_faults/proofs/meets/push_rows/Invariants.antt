use Rattle.std.proofs.Common.{◌≡◌, ◌++◌, drop, map}
use Rattle.site_faults.specs.Meets.{entry_seen, row_entry}
use Rattle.site_tables.specs.Views.{row_seen}
use Rattle.site_faults.proofs.meets.push_rows.Given as goal

-- what is made and what is left to make are all
abbrev pub invariant-loop-row : goal.invariant-loop-row
invariant-loop-row l =
    map entry_seen l.list.items ++ map (row_entry l.table) (map row_seen (drop l.row-index l.rows))
    ≡ map entry_seen l.initial.list.items ++ map (row_entry l.table) (map row_seen l.rows)
