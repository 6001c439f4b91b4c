use Rattle.site_drafts.proofs.making.made_of_records.Goals as goal

pub returns-in-Ok-clause-made : goal.returns-in-Ok-clause-made
returns-in-Ok-clause-made c =
    rw (c.deref.ensures.value, c.deref-2.ensures.value, c.in_ok-host_rows.ensures, c.in_ok-service_rows.ensures) at c.in-Ok.ensures.made

pub returns-clause-refused : goal.returns-clause-refused
returns-clause-refused c =
    rw (c.deref.ensures.value, c.deref-2.ensures.value, c.in_ok-host_rows.ensures, c.in_ok-service_rows.ensures) at c.in-Err.ensures.refused
