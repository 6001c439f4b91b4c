use Rattle.std.proofs.Common.{arith}
use Rattle.std.proofs.lemmas.Int.{ints}
use Rattle.linear_prop.proofs.KindAnswers.{flag_answer_done}
use Rattle.linear_prop.proofs.kinds.flag_answer.Goals as goal

pub returns-in_ok-other-in-None : goal.returns-in_ok-other-in-None
returns-in_ok-other-in-None c =
    let r = c.ranges.bound in
    flag_answer_done c.args.subject.con.now c.args.flag c.args.terms.now c.args.bound _ _ c.args.subject.domains.now c.args.subject.boxes.now c.in_ok-one.one c.in_ok-other-in-None.other c.requires.con (omega (arith, ints)) (omega (arith, ints))
    c.requires.well_made c.requires.sets c.requires.boxes c.requires.differ c.requires.open_zero c.requires.open_one c.in-None.is c.in_ok-one.ensures c.in_ok-other-in-None.ensures
