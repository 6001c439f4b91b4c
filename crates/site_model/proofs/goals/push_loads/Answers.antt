use Rattle.site_model.proofs.goals.push_loads.Goals as goal

pub returns : goal.returns
returns c = rw (c.as_slice.ensures, c.as_slice-2.ensures) at c.push_all.ensures
