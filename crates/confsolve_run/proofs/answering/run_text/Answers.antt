use Rattle.std.proofs.Common.{map, refl, ap}
use Rattle.proof_log.specs.Rounds.{Journal}
use Rattle.run_promise.specs.Delivery.{outside}
use Rattle.round_commands.specs.Ending.{trace}
use Rattle.confsolve_run.proofs.PresentRound.{empty_lines, other_problem, text_other}
use Rattle.confsolve_run.proofs.Endings.{text_at, text_refused}
use Rattle.run_status.specs.Stages.{stage_of}
use Rattle.confsolve_run.proofs.answering.run_text.Goals as goal

pub returns-in-Ok-clause-stands : goal.returns-in-Ok-clause-stands
returns-in-Ok-clause-stands g c = λ s h. absurd (c.in-Ok.ensures.stands s h)

pub returns-in-Err-clause-ends : goal.returns-in-Err-clause-ends
returns-in-Err-clause-ends g c =
    let here = outside (g.D.Desk.files c.args.desk.now) (g.D.Desk.printed c.args.desk.now) in
    let reads = g.D.Desk.read_faults c.args.desk.now in
    let writes = g.D.Desk.write_faults c.args.desk.now in
    text_refused (trace c.args.request.now (map (λ x. x.order) c.args.with.choosers.now) c.args.journal.now here here reads reads writes writes) c.args.text.now c.in-Err.status (ap (λ (j : Journal). j.rounds) c.requires.empty) c.in-Err.ensures.refused refl

pub returns-in-Ok-clause-ends : goal.returns-in-Ok-clause-ends
returns-in-Ok-clause-ends g c =
    let files = g.D.Desk.files in
    let printed = g.D.Desk.printed in
    let t = trace c.args.request.now (map (λ x. x.order) c.args.with.choosers.now) c.answer_model.new.journal (outside (files c.args.desk.now) (printed c.args.desk.now)) (outside (files c.answer_model.new.desk) (printed c.answer_model.new.desk)) (g.D.Desk.read_faults c.args.desk.now) (g.D.Desk.read_faults c.answer_model.new.desk) (g.D.Desk.write_faults c.args.desk.now) (g.D.Desk.write_faults c.answer_model.new.desk) in
    text_at (stage_of c.answer_model.result) t c.args.text.now c.in-Ok.program c.answer_model.result c.in-Ok.ensures.model c.answer_model.ensures.ends

pub returns-in-Err-clause-lines : goal.returns-in-Err-clause-lines
returns-in-Err-clause-lines g c =
    empty_lines (map (λ x. x.order) c.args.with.choosers.now) c.args.request.now c.args.journal.now
    c.requires.empty

pub returns-in-Err-clause-problem : goal.returns-in-Err-clause-problem
returns-in-Err-clause-problem g c =
    other_problem c.args.request.now c.in-Err.status c.args.journal.now
    (text_other c.args.text.now c.in-Err.status c.in-Err.ensures.refused)
