use Rattle.std.proofs.Common.{◌≡◌, drop, map}
use Rattle.serde_json.specs.Data.{no_members}
use Rattle.serde_json.specs.View.{members_view}
use Rattle.site_tables.specs.Views.{row_seen}
use Rattle.site_today.specs.Standing.{standing}
use Rattle.site_former.specs.Former.{with_hosts}
use Rattle.site_former.proofs.former.hosts_of.Given as goal

-- the keys so far, with those of the rows that are left, are all
abbrev pub invariant-loop-row : goal.invariant-loop-row
invariant-loop-row l =
    with_hosts (map (standing l.columns) (map row_seen (drop l.row-index l.rows))) (members_view l.members.entries)
    ≡ with_hosts (map (standing l.columns) (map row_seen l.rows)) no_members
