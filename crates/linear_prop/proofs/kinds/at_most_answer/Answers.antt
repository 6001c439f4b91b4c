use Rattle.std.proofs.Common.{arith}
use Rattle.std.proofs.lemmas.Int.{ints}
use Rattle.linear_prop.proofs.KindLaws.{fits_at_most, over_at_most}
use Rattle.linear_prop.proofs.KindAnswers.{at_most_answer}
use Rattle.linear_prop.proofs.kinds.at_most_answer.Goals as goal

pub row_answer-requires-clause-over : goal.row_answer-requires-clause-over
row_answer-requires-clause-over c = over_at_most c.args.terms.now c.args.bound c.args.subject.domains.now c.args.subject.boxes.now c.requires.well_made c.requires.sets c.requires.boxes c.requires.differ

pub returns : goal.returns
returns c =
    let v = c.of.ensures.value in let r = c.ranges.bound in
    at_most_answer c.args.subject.con.now c.args.terms.now c.args.bound c.of.result.value c.args.subject.domains.now c.args.subject.boxes.now c.in_ok-answer.answer c.requires.con (omega (arith, ints)) c.requires.well_made c.requires.boxes
    c.requires.differ c.in_ok-answer.ensures

pub row_answer-requires-clause-fits : goal.row_answer-requires-clause-fits
row_answer-requires-clause-fits c = fits_at_most c.args.terms.now c.args.bound c.args.subject.domains.now c.args.subject.boxes.now c.requires.well_made c.requires.sets c.requires.boxes
