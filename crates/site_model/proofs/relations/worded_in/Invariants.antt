use Rattle.std.proofs.Common.{◌≡◌, ◌++◌, drop, map}
use Rattle.site_model.specs.Pairs.{worded_in, worded_seen}
use Rattle.site_tables.specs.Views.{row_seen}
use Rattle.site_model.proofs.relations.worded_in.Given as goal

-- what is made and what is left to make are all
abbrev pub invariant-loop-row : goal.invariant-loop-row
invariant-loop-row l =
    map worded_seen l.list.items ++ worded_in l.column (map row_seen (drop l.row-index l.rows))
    ≡ worded_in l.column (map row_seen l.rows)
