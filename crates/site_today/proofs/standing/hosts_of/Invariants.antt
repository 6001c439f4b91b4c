use Rattle.std.proofs.Common.{◌≡◌, ◌++◌, drop, map, option_map}
use Rattle.site_tables.specs.Views.{row_seen}
use Rattle.site_today.specs.Standing.{hosts_of}
use Rattle.site_today.proofs.standing.hosts_of.Given as goal

-- what is made and what is left to make are all
abbrev pub invariant-loop-row : goal.invariant-loop-row
invariant-loop-row l =
    map (option_map (λ h. h.now)) l.hosts.items ++ hosts_of l.texts (map row_seen (drop l.row-index l.services))
    ≡ hosts_of l.texts (map row_seen l.services)
