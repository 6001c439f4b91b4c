use Rattle.std.proofs.Common.{map}
use Rattle.site_tables.specs.Views.{row_seen}
use Rattle.site_today.proofs.StandingLaws.{hosts_found}
use Rattle.site_today.proofs.standing.hosts_today.Goals as goal

pub returns : goal.returns
returns c =
    hosts_found c.in_ok-texts.texts (map row_seen c.args.services.now) (map row_seen c.args.today.now)
    _ c.today_columns-columns.result _ _ _ c.header.ensures c.today_columns-columns.ensures
    c.behind.ensures c.in_ok-texts.ensures c.behind-2.ensures c.in_ok-hosts.ensures
