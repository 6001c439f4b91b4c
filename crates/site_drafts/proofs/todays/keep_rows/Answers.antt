use Rattle.std.proofs.Common.{map, ap, ◌∙◌}
use Rattle.site_model.specs.Goals.{kept_seen}
use Rattle.site_drafts.proofs.DraftLaws.{is_kept_by}
use Rattle.site_tables.specs.Views.{row_seen}
use Rattle.site_drafts.proofs.todays.keep_rows.Goals as goal

pub returns-in-Ok-clause-kept : goal.returns-in-Ok-clause-kept
returns-in-Ok-clause-kept c =
    is_kept_by (map row_seen c.args.hosts.now) (map row_seen c.args.services.now)
    (map row_seen c.args.today.now) c.args.beside.now c.in-Ok.text.items
    (map kept_seen c.deref.result.now) c.in_ok-check.ensures.sound
    (ap (map kept_seen) c.deref.ensures.value ∙ c.in_ok-list.ensures) c.in-Ok.ensures.same
