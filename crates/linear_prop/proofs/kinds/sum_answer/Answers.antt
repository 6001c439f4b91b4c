use Rattle.std.proofs.Common.{arith}
use Rattle.std.proofs.lemmas.Int.{ints}
use Rattle.linear_prop.proofs.KindAnswers.{sum_answer_done}
use Rattle.linear_prop.proofs.kinds.sum_answer.Goals as goal

pub returns-in_ok-down-in-None : goal.returns-in_ok-down-in-None
returns-in_ok-down-in-None c =
    let r = c.ranges.offset in
    sum_answer_done c.args.subject.con.now c.args.out c.args.terms.now c.args.offset _ _ c.args.subject.domains.now c.args.subject.boxes.now c.in_ok-up.up c.in_ok-down-in-None.down c.requires.con (omega (arith, ints)) (omega (arith, ints))
    c.requires.well_made c.requires.boxes c.requires.differ c.in-None.is c.in_ok-up.ensures c.in_ok-down-in-None.ensures
