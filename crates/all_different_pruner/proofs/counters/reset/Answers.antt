use Rattle.all_different_pruner.proofs.Totals.{total_none}
use Rattle.all_different_pruner.proofs.counters.reset.Goals as goal

pub returns-clause-totals : goal.returns-clause-totals
returns-clause-totals c e = total_none e _ _ _ _ c.clear.ensures.items c.in_ok-resize.ensures.items
