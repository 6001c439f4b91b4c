use Rattle.config_json.proofs.HintLaws.{none_next}
use Rattle.config_json.proofs.leaves.push_none.Goals as goal

pub loop-cell-preserved : goal.loop-cell-preserved
loop-cell-preserved c = none_next c.args.count c.loop-cell._cell _ c.loop-cell.hints.items c.push.new.self.items c.loop-cell-test.true c.in_ok-push.ensures.items c.loop-cell.invariant
