use Rattle.std.proofs.Common.{pos}
use Rattle.ground_model.proofs.KnownCells.{values_none, values_next}
use Rattle.ground_model.proofs.known.require_values.Goals as goal

pub loop-k-init : goal.loop-k-init
loop-k-init c = values_none c.args.maker.now c.args.known.now

pub loop-k-preserved : goal.loop-k-preserved
loop-k-preserved c = values_next c.args.maker.now c.loop-k.maker c.require_value.new.maker c.args.known.now c.loop-k.k-index (0, pos 0) c.loop-k-test.true c.loop-k.invariant c.in_ok-require_value.ensures.says
