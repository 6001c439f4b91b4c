use Rattle.site_drafts.proofs.todays.keep_records.Goals as goal

pub returns-in-Ok-clause-kept : goal.returns-in-Ok-clause-kept
returns-in-Ok-clause-kept c = rw (c.deref.ensures.value, c.in_ok-rows.ensures) at c.in-Ok.ensures.kept

pub returns-clause-refused : goal.returns-clause-refused
returns-clause-refused c =
    rw (c.deref.ensures.value, c.in_ok-rows.ensures) at c.in-Err.ensures.refused
