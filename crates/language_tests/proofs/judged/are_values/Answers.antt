use Rattle.std.proofs.Common.{rules}
use Rattle.language_tests.proofs.ValueRows.{one_more}
use Rattle.language_tests.proofs.judged.are_values.Goals as goal

pub loop-i-preserved : goal.loop-i-preserved
loop-i-preserved c =
    let o = c.args.objects.now in
    let is = c.is_in.ensures.inside o (search rules) in
    λ rest. c.loop-i.invariant (one_more o c.cells-cells.result.now c.args.values.now c.loop-i.i _ c.loop-i-test.true c.if-cells-values.false is rest)
