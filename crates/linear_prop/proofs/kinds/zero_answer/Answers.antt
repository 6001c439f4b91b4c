use Rattle.std.proofs.Common.{arith}
use Rattle.std.proofs.lemmas.Int.{ints}
use Rattle.linear_prop.proofs.KindLaws.{fits_zero, over_zero, flag_different_turned}
use Rattle.linear_prop.proofs.KindAnswers.{follows_zero_con, zero_answer_done}
use Rattle.linear_prop.proofs.kinds.zero_answer.Goals as goal

pub fixed_answer-requires-clause-over : goal.fixed_answer-requires-clause-over
fixed_answer-requires-clause-over c = over_zero c.args.flag c.args.terms.now c.args.bound c.args.subject.domains.now c.args.subject.boxes.now c.requires.well_made c.requires.sets c.requires.boxes c.requires.differ

pub fixed_answer-requires-clause-different : goal.fixed_answer-requires-clause-different
fixed_answer-requires-clause-different c = flag_different_turned c.args.flag c.args.terms.now c.requires.differ

pub fixed_answer-requires-clause-follows : goal.fixed_answer-requires-clause-follows
fixed_answer-requires-clause-follows c o h n =
    let v = c.turned_bound.ensures in let r = c.ranges.bound in
    follows_zero_con c.args.subject.con.now c.args.flag c.args.terms.now c.args.bound c.turned_bound.result.value c.args.subject.domains.now o c.requires.con (omega (arith, ints)) h n

pub returns : goal.returns
returns c =
    let v = c.turned_bound.ensures in let r = c.ranges.bound in
    zero_answer_done c.args.subject.con.now c.args.flag c.args.terms.now c.args.bound c.turned_bound.result.value c.args.subject.domains.now c.args.subject.boxes.now c.in_ok-answer.answer c.requires.con (omega (arith, ints)) c.requires.well_made
    c.requires.sets c.requires.boxes c.requires.differ c.requires.fixed c.in_ok-answer.ensures

pub fixed_answer-requires-clause-fits : goal.fixed_answer-requires-clause-fits
fixed_answer-requires-clause-fits c = fits_zero c.args.flag c.args.terms.now c.args.bound c.args.subject.domains.now c.args.subject.boxes.now c.requires.well_made c.requires.sets c.requires.boxes
