use Rattle.run_law.proofs.LineSets.{sets_step, sets_all}
use Rattle.run_law.proofs.known.know_lines.Goals as goal

pub loop-line-preserved : goal.loop-line-preserved
loop-line-preserved c =
    sets_step c.args.lines.now c.loop-line.line-index c.line-item.result c.loop-line-test.true
    c.line-item.is c.know_line.ensures c.loop-line.invariant

pub returns : goal.returns
returns c =
    sets_all c.args.lines.now c.loop-line.line-index c.loop-line-test.false c.loop-line.invariant
