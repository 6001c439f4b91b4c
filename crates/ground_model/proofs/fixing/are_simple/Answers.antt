use Rattle.std.proofs.Common.{sym, ◌∙◌}
use Rattle.ground_model.proofs.Fixings.{next_simple, one_is_not, all_simple}
use Rattle.ground_model.proofs.fixing.are_simple.Goals as goal

pub loop-e-preserved : goal.loop-e-preserved
loop-e-preserved c = next_simple c.args.list.now c.loop-e.e-index c.e-item.result c.loop-e-test.true c.e-item.is (sym c.is_simple.ensures ∙ c.if-not-is_simple.false) c.loop-e.invariant

pub returns-then-not-is_simple : goal.returns-then-not-is_simple
returns-then-not-is_simple c = one_is_not c.args.list.now c.loop-e.e-index c.e-item.result c.loop-e-test.true c.e-item.is (sym c.is_simple.ensures ∙ c.if-not-is_simple.true) c.loop-e.invariant

pub returns : goal.returns
returns c = all_simple c.args.list.now c.loop-e.e-index c.loop-e-test.false c.loop-e.invariant
