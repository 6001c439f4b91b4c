use Rattle.std.proofs.Common.{ap, inl, map, refl}
use Rattle.proof_log.specs.Rounds.{Journal}
use Rattle.run_promise.specs.Delivery.{outside}
use Rattle.round_commands.proofs.Ends.{model_denied}
use Rattle.round_commands.proofs.Reading.{denied_for}
use Rattle.round_commands.specs.Ending.{trace}
use Rattle.confsolve_run.proofs.PresentRound.{empty_lines, model_other, other_problem}
use Rattle.confsolve_run.proofs.answering.answer_model.Goals as goal

pub returns-in-Err-clause-ends : goal.returns-in-Err-clause-ends
returns-in-Err-clause-ends g c =
    let d = g.D.Desk in
    let here = outside (d.files c.args.desk.now) (d.printed c.args.desk.now) in
    let reads = d.read_faults c.args.desk.now in
    let writes = d.write_faults c.args.desk.now in
    model_denied
    (trace c.args.request.now (map (λ x. x.order) c.args.with.choosers.now) c.args.journal.now
    here here reads reads writes writes)
    c.args.program.now c.in-Err.status (inl (ap (λ (j : Journal). j.rounds) c.requires.empty))
    (denied_for reads reads c.in-Err.status _ _ c.in-Err.ensures.refused) refl

pub returns-in-Err-typed_model-clause-ends : goal.returns-in-Err-typed_model-clause-ends
returns-in-Err-typed_model-clause-ends g c =
    let d = g.D.Desk in
    let here = outside (d.files c.args.desk.now) (d.printed c.args.desk.now) in
    let reads = d.read_faults c.args.desk.now in
    let writes = d.write_faults c.args.desk.now in
    model_denied
    (trace c.args.request.now (map (λ x. x.order) c.args.with.choosers.now) c.args.journal.now
    here here reads reads writes writes)
    c.args.program.now c.in-Err-typed_model.status
    (inl (ap (λ (j : Journal). j.rounds) c.requires.empty))
    (denied_for reads reads c.in-Err-typed_model.status _ _ c.in-Err-typed_model.ensures.refused)
    refl

pub returns-in-Err-objects_of-clause-ends : goal.returns-in-Err-objects_of-clause-ends
returns-in-Err-objects_of-clause-ends g c =
    let d = g.D.Desk in
    let here = outside (d.files c.args.desk.now) (d.printed c.args.desk.now) in
    let reads = d.read_faults c.args.desk.now in
    let writes = d.write_faults c.args.desk.now in
    model_denied
    (trace c.args.request.now (map (λ x. x.order) c.args.with.choosers.now) c.args.journal.now
    here here reads reads writes writes)
    c.args.program.now c.in-Err-objects_of.status
    (inl (ap (λ (j : Journal). j.rounds) c.requires.empty))
    (denied_for reads reads c.in-Err-objects_of.status _ _
    (c.in-Err-objects_of.ensures.refused c.args.program.now c.in-Ok-typed_model.ensures.resolved))
    refl

pub returns-clause-ends : goal.returns-clause-ends
returns-clause-ends g c =
    let p = c.args.program.now in
    let made = c.in-Ok-typed_model.ensures.resolved in
    c.answer_built.ensures.ends p c.in-Ok.table c.in-Ok-objects_of.ensures.objects made
    (c.in-Ok-objects_of.ensures.within p made)

pub returns-in-Err-clause-lines : goal.returns-in-Err-clause-lines
returns-in-Err-clause-lines g c =
    empty_lines (map (λ x. x.order) c.args.with.choosers.now) c.args.request.now c.args.journal.now
    c.requires.empty

pub returns-in-Err-clause-problem : goal.returns-in-Err-clause-problem
returns-in-Err-clause-problem g c =
    other_problem c.args.request.now c.in-Err.status c.args.journal.now
    (model_other c.args.program.now c.in-Err.status c.in-Err.ensures.refused)

pub returns-in-Err-typed_model-clause-lines : goal.returns-in-Err-typed_model-clause-lines
returns-in-Err-typed_model-clause-lines g c =
    empty_lines (map (λ x. x.order) c.args.with.choosers.now) c.args.request.now c.args.journal.now
    c.requires.empty

pub returns-in-Err-typed_model-clause-problem : goal.returns-in-Err-typed_model-clause-problem
returns-in-Err-typed_model-clause-problem g c =
    other_problem c.args.request.now c.in-Err-typed_model.status c.args.journal.now
    (model_other c.args.program.now c.in-Err-typed_model.status c.in-Err-typed_model.ensures.refused)

pub returns-in-Err-objects_of-clause-lines : goal.returns-in-Err-objects_of-clause-lines
returns-in-Err-objects_of-clause-lines g c =
    empty_lines (map (λ x. x.order) c.args.with.choosers.now) c.args.request.now c.args.journal.now
    c.requires.empty

pub returns-in-Err-objects_of-clause-problem : goal.returns-in-Err-objects_of-clause-problem
returns-in-Err-objects_of-clause-problem g c =
    other_problem c.args.request.now c.in-Err-objects_of.status c.args.journal.now
    (model_other c.args.program.now c.in-Err-objects_of.status (c.in-Err-objects_of.ensures.refused c.args.program.now c.in-Ok-typed_model.ensures.resolved))
