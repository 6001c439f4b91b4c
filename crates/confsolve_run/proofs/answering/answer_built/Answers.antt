use Rattle.std.proofs.Common.{◌≡◌, true, false, Err, ap, inl, inr, map, option_copied, subst, sym}
use Rattle.std.specs.Option.{option_map}
use Rattle.desk_io.specs.Fault.{HasRisen}
use Rattle.run_promise.specs.Asking.{closes_rounds, leaves_journal}
use Rattle.run_promise.specs.Delivery.{outside}
use Rattle.round_commands.proofs.Ends.{model_denied, same_outside}
use Rattle.round_commands.specs.Ending.{trace, EndsModel}
use Rattle.confsolve_run.proofs.PresentRound.{session_lines, session_problem}
use Rattle.confsolve_run.proofs.AskedParts.{model_answer, model_refusal, model_cut, no_session}
use Rattle.confsolve_run.proofs.Endings.{begun_from, answered_from}
use Rattle.confsolve_run.proofs.answering.answer_built.Goals as goal

pub returns-in-Session-clause-ends : goal.returns-in-Session-clause-ends
returns-in-Session-clause-ends g c =
    let d = g.D.Desk in
    let before = c.args.desk.now in
    let now = c.hold_model.new.desk in
    let q = c.in-Session in
    λ p table objects_are made within.
    subst
    (λ r. EndsModel (trace r (map (λ x. x.order) c.args.with.choosers.now)
    c.hold_model.new.journal (outside (d.files before) (d.printed before))
    (outside (d.files now) (d.printed now)) (d.read_faults before) (d.read_faults now)
    (d.write_faults before) (d.write_faults now)) p c.hold_model.result)
    (sym q.is) (c.hold_model.ensures.ends q.model p table objects_are made within)

pub returns-in-Session-clause-rounds : goal.returns-in-Session-clause-rounds
returns-in-Session-clause-rounds g c = λ none.
    let yes : closes_rounds c.args.request.now ≡ true = ap closes_rounds c.in-Session.is in
    absurd cc

pub returns-in-Session-clause-kept : goal.returns-in-Session-clause-kept
returns-in-Session-clause-kept g c = λ yes.
    let none : leaves_journal c.args.request.now ≡ false = ap leaves_journal c.in-Session.is in
    absurd cc

pub asked-requires-clause-other : goal.asked-requires-clause-other
asked-requires-clause-other g c = no_session c.args.request.now c.in_default.not-Session

pub returns-in-Err-clause-ends : goal.returns-in-Err-clause-ends
returns-in-Err-clause-ends g c =
    let d = g.D.Desk in
    let built = c.args.built in
    let before = c.args.desk.now in
    let now = c.asked.new.desk in
    let e = c.asked.ensures in
    let told = d.files before in
    let r = c.args.request.now in
    let os = map (λ x. x.order) c.args.with.choosers.now in
    let journal = c.asked.new.journal in
    let s = c.in-Err.status in
    let t = trace r os journal (outside told (d.printed before))
    (outside (d.files now) (d.printed now)) (d.read_faults before) (d.read_faults now)
    (d.write_faults before) (d.write_faults now) in
    λ p table objects_are made within.
    model_denied t p s
    (model_cut told r os journal p table built.objects.now built.model.now.constraints
    built.model.now.goals objects_are made within c.in-Err.ensures.cut)
    (model_refusal told r os journal p table built.objects.now built.model.now.constraints
    built.model.now.goals objects_are made within (d.read_faults before) (d.read_faults now) s
    c.in-Err.ensures.refused)
    (same_outside told (d.files now) (d.printed before) (d.printed now) e.files e.printed)

pub returns-in-Ok-deliver-clause-ends : goal.returns-in-Ok-deliver-clause-ends
returns-in-Ok-deliver-clause-ends g c =
    let d = g.D.Desk in
    let built = c.args.built in
    let before = c.args.desk.now in
    let mid = c.asked.new.desk in
    let now = c.deliver.new.desk in
    let told = d.files before in
    let r = c.args.request.now in
    let os = map (λ x. x.order) c.args.with.choosers.now in
    let journal = c.asked.new.journal in
    let a = c.in-Ok.answer in
    let e = c.in-Ok.ensures in
    let t = trace r os journal (outside told (d.printed before))
    (outside (d.files now) (d.printed now)) (d.read_faults before) (d.read_faults now)
    (d.write_faults before) (d.write_faults now) in
    λ p table objects_are made within.
    answered_from t p a.status (option_copied c.log_file.result)
    (option_map (λ text. text.items) a.log) a.text.items (d.files mid) (d.printed mid) e.files
    e.printed e.stage e.recorded c.log_file.ensures e.log c.in-Ok-deliver.ensures.files within
    (model_answer told r os journal p table built.objects.now built.model.now.constraints
    built.model.now.goals objects_are made within a.status a.text.items e.answer)
    c.in-Ok-deliver.ensures.printed

pub returns-in-Err-WriteFault-clause-ends : goal.returns-in-Err-WriteFault-clause-ends
returns-in-Err-WriteFault-clause-ends g c =
    let d = g.D.Desk in
    let built = c.args.built in
    let before = c.args.desk.now in
    let mid = c.asked.new.desk in
    let now = c.deliver.new.desk in
    let told = d.files before in
    let r = c.args.request.now in
    let os = map (λ x. x.order) c.args.with.choosers.now in
    let journal = c.asked.new.journal in
    let a = c.in-Ok.answer in
    let e = c.in-Ok.ensures in
    let t = trace r os journal (outside told (d.printed before))
    (outside (d.files now) (d.printed now)) (d.read_faults before) (d.read_faults now)
    (d.write_faults before) (d.write_faults now) in
    let risen = subst (λ n. HasRisen n (d.write_faults now)) e.write_faults
    (c.in-Err-WriteFault.ensures.fault (ap Err c.in-Err-WriteFault.field-0-is)) in
    λ p table objects_are made within.
    let b = begun_from t p a.status (option_copied c.log_file.result)
    (option_map (λ text. text.items) a.log) a.text.items (d.files mid) (d.printed mid) e.files
    e.printed e.recorded c.log_file.ensures e.log c.in-Err-WriteFault.ensures.broken within
    c.in_default.not-Session (model_answer told r os journal p table built.objects.now built.model.now.constraints
    built.model.now.goals objects_are made within a.status a.text.items e.answer) in
    (risen, b.begins, (b.within, b.breaks))

pub returns-clause-ends : goal.returns-clause-ends
returns-clause-ends g c =
    let d = g.D.Desk in
    let built = c.args.built in
    let before = c.args.desk.now in
    let mid = c.asked.new.desk in
    let now = c.deliver.new.desk in
    let told = d.files before in
    let r = c.args.request.now in
    let os = map (λ x. x.order) c.args.with.choosers.now in
    let journal = c.asked.new.journal in
    let a = c.in-Ok.answer in
    let e = c.in-Ok.ensures in
    let t = trace r os journal (outside told (d.printed before))
    (outside (d.files now) (d.printed now)) (d.read_faults before) (d.read_faults now)
    (d.write_faults before) (d.write_faults now) in
    λ p table objects_are made within.
    let b = begun_from t p a.status (option_copied c.log_file.result)
    (option_map (λ text. text.items) a.log) a.text.items (d.files mid) (d.printed mid) e.files
    e.printed e.recorded c.log_file.ensures e.log c.in-Err-Memory.ensures.broken within
    c.in_default.not-Session (model_answer told r os journal p table built.objects.now built.model.now.constraints
    built.model.now.goals objects_are made within a.status a.text.items e.answer) in
    inr (inl (b.begins, (b.within, b.breaks)))

pub returns-in-Session-clause-lines : goal.returns-in-Session-clause-lines
returns-in-Session-clause-lines g c =
    let q = c.in-Session in
    session_lines (map (λ x. x.order) c.args.with.choosers.now) c.args.request.now
    c.hold_model.new.journal.lines q.model q.former q.events q.budget q.order q.is
    c.hold_model.ensures.so_far

pub returns-in-Session-clause-problem : goal.returns-in-Session-clause-problem
returns-in-Session-clause-problem g c =
    let q = c.in-Session in
    session_problem c.args.request.now c.hold_model.new.journal q.model q.former q.events q.budget
    q.order q.is c.hold_model.result
