use Rattle.std.proofs.Common.{arith}
use Rattle.std.proofs.lemmas.Int.{ints}
use Rattle.box_view.proofs.EndLaws.{are_sets}
use Rattle.linear_prop.proofs.KindLaws.{fits_one, over_one, flag_different}
use Rattle.linear_prop.proofs.KindAnswers.{follows_one_con, open_one}
use Rattle.linear_prop.proofs.kinds.open_one_answer.Goals as goal

pub open_answer-requires-clause-over : goal.open_answer-requires-clause-over
open_answer-requires-clause-over c = over_one c.args.flag c.args.terms.now c.args.bound c.args.subject.domains.now c.args.subject.boxes.now c.requires.well_made c.requires.sets c.requires.boxes c.requires.differ

pub open_answer-requires-clause-different : goal.open_answer-requires-clause-different
open_answer-requires-clause-different c = flag_different c.args.flag c.args.terms.now c.requires.differ

pub open_answer-requires-clause-open : goal.open_answer-requires-clause-open
open_answer-requires-clause-open c = open_one c.args.flag c.args.subject.boxes.now (are_sets c.args.subject.boxes.now c.requires.boxes.sets c.args.flag) c.requires.open

pub open_answer-requires-clause-follows : goal.open_answer-requires-clause-follows
open_answer-requires-clause-follows c o h n =
    let v = c.of.ensures.value in let r = c.ranges.bound in
    follows_one_con c.args.subject.con.now c.args.flag c.args.terms.now c.args.bound c.of.result.value c.args.subject.domains.now o c.requires.con (omega (arith, ints)) h n

pub open_answer-requires-clause-fits : goal.open_answer-requires-clause-fits
open_answer-requires-clause-fits c = fits_one c.args.flag c.args.terms.now c.args.bound c.args.subject.domains.now c.args.subject.boxes.now c.requires.well_made c.requires.sets c.requires.boxes
