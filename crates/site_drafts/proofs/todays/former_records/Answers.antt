use Rattle.site_drafts.proofs.todays.former_records.Goals as goal

pub returns-in-Ok-clause-former : goal.returns-in-Ok-clause-former
returns-in-Ok-clause-former c = rw (c.deref.ensures.value, c.in_ok-rows.ensures) at c.in-Ok.ensures.former

pub returns-clause-refused : goal.returns-clause-refused
returns-clause-refused c =
    rw (c.deref.ensures.value, c.in_ok-rows.ensures) at c.in-Err.ensures.refused
