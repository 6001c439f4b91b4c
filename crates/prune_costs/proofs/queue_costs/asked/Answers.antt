use Rattle.prune_costs.proofs.queue_costs.asked.Goals as goal

pub asks-requires-clause-fits : goal.asks-requires-clause-fits
asks-requires-clause-fits g c = c.in_ok-queue.ensures.fits c.items-boxes.result.now
