use Rattle.site_names.proofs.word.is_kept.Goals as goal

pub returns : goal.returns
returns c = c.is_one_of.ensures
