use Rattle.std.proofs.Common.{map, sym, subst}
use Rattle.csv.specs.Records.{fields_of}
use Rattle.site_tables.specs.Grid.{grid}
use Rattle.site_tables.specs.Views.{row_seen}
use Rattle.site_drafts.proofs.DraftLaws.{is_former, unsound_no_today}
use Rattle.site_drafts.specs.Tables.{HasRows}
use Rattle.site_drafts.proofs.todays.former.Goals as goal

pub returns-in-Ok-former_records-clause-former : goal.returns-in-Ok-former_records-clause-former
returns-in-Ok-former_records-clause-former c =
    is_former (map row_seen c.args.hosts.now) (map row_seen c.args.services.now)
    c.args.state.now c.in-Ok-former_records.text.items (grid 0 (map fields_of c.deref.result.now))
    (subst (λ v. HasRows c.args.state.now (grid 0 (map fields_of v))) (sym c.deref.ensures.value)
    c.in-Ok.ensures.rows)
    c.in-Ok-former_records.ensures.former

pub returns-clause-refused : goal.returns-clause-refused
returns-clause-refused c =
    unsound_no_today (map row_seen c.args.hosts.now) (map row_seen c.args.services.now)
    c.args.state.now (grid 0 (map fields_of c.deref.result.now)) c.in-Err-former_records.refusal
    (subst (λ v. HasRows c.args.state.now (grid 0 (map fields_of v))) (sym c.deref.ensures.value)
    c.in-Ok.ensures.rows)
    c.in-Err-former_records.ensures.refused
