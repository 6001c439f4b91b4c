use Rattle.ground_tests.proofs.ValueRows.{one_more}
use Rattle.ground_tests.proofs.configurations.is_configuration.Goals as goal

pub loop-i-preserved : goal.loop-i-preserved
loop-i-preserved c =
    let o = c.args.objects.now in
    let is = c.in_ok-inside.ensures.inside c.if-not-inside.false in
    λ rest. c.loop-i.invariant (one_more o c.cells-cells.result.now c.args.values.now c.loop-i.i _ c.loop-i-test.true c.if-cells-values.false is rest)
