use Rattle.rule_law.proofs.Covering.{map_set}
use Rattle.rule_law.proofs.kit.prune_at.Goals as goal

pub returns-clause-handled : goal.returns-clause-handled
returns-clause-handled g c =
    map_set (λ p. (goal.Propagator-dyn g (p.vtable, p.value)).handled p.value) c.args.list.now c.args.index c.index-list-index.result c.prune_one.new.p c.prune_one.ensures.handled
