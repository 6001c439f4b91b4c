use Rattle.std.proofs.Common.{arith}
use Rattle.std.proofs.lemmas.Int.{ints}
use Rattle.linear_prop.proofs.KindLaws.{fits_down, over_down}
use Rattle.linear_prop.proofs.KindAnswers.{follows_down_con}
use Rattle.linear_prop.proofs.kinds.down_answer.Goals as goal

pub row_answer-requires-clause-over : goal.row_answer-requires-clause-over
row_answer-requires-clause-over c = over_down c.args.out c.args.terms.now c.args.offset c.args.subject.domains.now c.args.subject.boxes.now c.requires.well_made c.requires.sets c.requires.boxes c.requires.differ

pub row_answer-requires-clause-follows : goal.row_answer-requires-clause-follows
row_answer-requires-clause-follows c o h =
    let v = c.of.ensures.value in let r = c.ranges.offset in
    follows_down_con c.args.subject.con.now c.args.out c.args.terms.now c.args.offset c.of.result.value c.args.subject.domains.now o c.requires.con (omega (arith, ints)) h

pub row_answer-requires-clause-fits : goal.row_answer-requires-clause-fits
row_answer-requires-clause-fits c = fits_down c.args.out c.args.terms.now c.args.offset c.args.subject.domains.now c.args.subject.boxes.now c.requires.well_made c.requires.sets c.requires.boxes c.requires.near
