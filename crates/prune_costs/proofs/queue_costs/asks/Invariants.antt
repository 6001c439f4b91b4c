use Rattle.prop_queue.specs.Work.{IsOver, Fits}
use Rattle.prune_costs.proofs.queue_costs.asks.Given as goal

abbrev pub invariant-loop-k : goal.invariant-loop-k
invariant-loop-k d l = record { over : IsOver l.g l.queue; fits : Fits l.g l.queue l.boxes }
