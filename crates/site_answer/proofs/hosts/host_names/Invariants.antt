use Rattle.std.proofs.Common.{◌≡◌, ℕ, List, None, drop, map}
use Rattle.site_tables.specs.Views.{row_seen}
use Rattle.site_texts.specs.Pairs.{last_under, under}
use Rattle.site_answer.specs.Names.{worded_host}
use Rattle.site_answer.proofs.hosts.host_names.Given as goal

-- what was found, with the hosts that are left, decides
abbrev pub invariant-loop-row : goal.invariant-loop-row
invariant-loop-row l =
    (q : List ℕ)
    → last_under q (under q l.names) (map worded_host (map row_seen (drop l.row-index l.hosts)))
    ≡ last_under q None (map worded_host (map row_seen l.hosts))
