use Rattle.log_check.specs.Marks.{clauses_in, unmarked}
use Rattle.log_check.proofs.Marking.{marks_more}
use Rattle.log_check.proofs.needed.no_marks.Goals as goal

pub loop-line-preserved : goal.loop-line-preserved
loop-line-preserved c =
    marks_more c.args.g.now c.args.lines.now c.loop-line.line-index c.line-item.result c.loop-line.marks.items c.push_unmarked.new.marks.items (unmarked (clauses_in c.args.g.now c.args.lines.now)) c.count_clauses.result
    c.loop-line-test.true c.line-item.is c.count_clauses.ensures c.in_ok-push_unmarked.ensures c.loop-line.invariant
