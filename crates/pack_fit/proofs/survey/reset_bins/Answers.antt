use Rattle.pack_fit.proofs.BinsCounted.{none_counted}
use Rattle.pack_fit.proofs.survey.reset_bins.Goals as goal

pub returns-clause-none : goal.returns-clause-none
returns-clause-none c = none_counted _ _ c.bare.result _ _ c.clear.ensures.items c.in_ok-resize.ensures.items c.bare.ensures
