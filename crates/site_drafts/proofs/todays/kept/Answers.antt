use Rattle.std.proofs.Common.{map, refl, ◌∙◌}
use Rattle.site_tables.specs.Grid.{behind, name_of}
use Rattle.site_tables.specs.Views.{row_seen}
use Rattle.site_today.specs.Standing.{host_today, hosts_today}
use Rattle.site_drafts.proofs.PairedLaws.{kept_hosts}
use Rattle.site_drafts.proofs.todays.kept.Goals as goal

pub returns : goal.returns
returns c =
    (rw (c.behind.ensures, c.deref.ensures.value, c.in_ok-hosts.ensures) at c.in_ok-list.ensures)
    ∙ kept_hosts (λ s. host_today (map row_seen c.args.today.now) (name_of s))
    (behind (map row_seen c.args.services.now)) 0
    (hosts_today (map row_seen c.args.services.now) (map row_seen c.args.today.now)) refl
