use Rattle.std.proofs.Common.{◌∙◌}
use Rattle.rule_law.proofs.Covering.{map_set}
use Rattle.rule_law.proofs.kit.begin_all.Goals as goal

pub loop-i-preserved : goal.loop-i-preserved
loop-i-preserved g c =
    map_set (λ p. (goal.Propagator-dyn g (p.vtable, p.value)).handled p.value) c.loop-i.list c.loop-i.i c.index-list-i.result c.begin_one.new.p c.begin_one.ensures
    ∙ c.loop-i.invariant
