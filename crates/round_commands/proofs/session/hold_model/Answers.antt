use Rattle.std.proofs.Common.{Err, ◌∙◌, ap, map, subst}
use Rattle.conf_request.specs.declared.request.Request.TheVariants.{Session}
use Rattle.desk_io.specs.Fault.{HasRisen}
use Rattle.proof_log.specs.Rounds.{Journal}
use Rattle.run_promise.specs.Delivery.{outside}
use Rattle.round_commands.proofs.Ends.{same_outside}
use Rattle.round_commands.proofs.Holdings.{ends_whole, ends_unwritten, ends_lost, ends_denied}
use Rattle.round_commands.proofs.Reading.{unread_map}
use Rattle.round_commands.specs.Ending.{trace}
use Rattle.round_commands.proofs.session.hold_model.Goals as goal

pub returns-in-Err-clause-ends : goal.returns-in-Err-clause-ends
returns-in-Err-clause-ends g c =
    let d = g.D.Desk in
    let w = c.args.wish in
    let built = c.args.built in
    let before = c.args.desk.now in
    let now = c.session_wished.new.desk in
    let e = c.session_wished.ensures in
    let at = outside (d.files before) (d.printed before) in
    let at_now = outside (d.files now) (d.printed now) in
    λ model.
    ends_denied
    (trace (Session model w.former.now w.events.now w.budget w.order)
    (map (λ x. x.order) c.args.with.choosers.now) c.args.journal.now at at_now
    (d.read_faults before) (d.read_faults now) (d.write_faults before) (d.write_faults now))
    built.objects.now built.model.now.constraints built.model.now.goals c.in-Err.status
    (ap (λ (j : Journal). j.rounds) c.requires.empty)
    (same_outside (d.files before) (d.files now) (d.printed before) (d.printed now) e.files
    e.printed)
    (unread_map (d.read_faults before) (d.read_faults now) c.in-Err.status _ _ (λ h. h model)
    c.in-Err.ensures.refused)

pub returns-in-Ok-hold_opened-clause-ends : goal.returns-in-Ok-hold_opened-clause-ends
returns-in-Ok-hold_opened-clause-ends g c =
    let d = g.D.Desk in
    let w = c.args.wish in
    let built = c.args.built in
    let before = c.args.desk.now in
    let mid = c.session_wished.new.desk in
    let now = c.hold_opened.new.desk in
    let e = c.in-Ok.ensures in
    λ model.
    ends_whole
    (trace (Session model w.former.now w.events.now w.budget w.order)
    (map (λ x. x.order) c.args.with.choosers.now) c.hold_opened.new.journal
    (outside (d.files before) (d.printed before)) (outside (d.files now) (d.printed now))
    (d.read_faults before) (d.read_faults now) (d.write_faults before) (d.write_faults now))
    built.objects.now built.model.now.constraints built.model.now.goals c.in-Ok.opened
    (d.printed mid) e.printed (e.asked model) e.budget (c.hold_opened.ensures.files ∙ e.files)
    c.in-Ok-hold_opened.status c.in-Ok-hold_opened.ensures.whole

pub returns-in-Err-WriteFault-clause-ends : goal.returns-in-Err-WriteFault-clause-ends
returns-in-Err-WriteFault-clause-ends g c =
    let d = g.D.Desk in
    let w = c.args.wish in
    let built = c.args.built in
    let before = c.args.desk.now in
    let mid = c.session_wished.new.desk in
    let now = c.hold_opened.new.desk in
    let e = c.in-Ok.ensures in
    let risen = subst (λ n. HasRisen n (d.write_faults now)) e.write_faults
    (c.in-Err-WriteFault.ensures.fault (ap Err c.in-Err-WriteFault.field-0-is)) in
    λ model.
    ends_unwritten
    (trace (Session model w.former.now w.events.now w.budget w.order)
    (map (λ x. x.order) c.args.with.choosers.now) c.hold_opened.new.journal
    (outside (d.files before) (d.printed before)) (outside (d.files now) (d.printed now))
    (d.read_faults before) (d.read_faults now) (d.write_faults before) (d.write_faults now))
    built.objects.now built.model.now.constraints built.model.now.goals c.in-Ok.opened
    (d.printed mid) e.printed (e.asked model) e.budget (c.hold_opened.ensures.files ∙ e.files)
    risen c.in-Err-WriteFault.ensures.part

pub returns-in-Err-Memory-clause-ends : goal.returns-in-Err-Memory-clause-ends
returns-in-Err-Memory-clause-ends g c =
    let d = g.D.Desk in
    let w = c.args.wish in
    let built = c.args.built in
    let before = c.args.desk.now in
    let mid = c.session_wished.new.desk in
    let now = c.hold_opened.new.desk in
    let e = c.in-Ok.ensures in
    λ model.
    ends_lost
    (trace (Session model w.former.now w.events.now w.budget w.order)
    (map (λ x. x.order) c.args.with.choosers.now) c.hold_opened.new.journal
    (outside (d.files before) (d.printed before)) (outside (d.files now) (d.printed now))
    (d.read_faults before) (d.read_faults now) (d.write_faults before) (d.write_faults now))
    built.objects.now built.model.now.constraints built.model.now.goals c.in-Ok.opened
    (d.printed mid) e.printed (e.asked model) e.budget (c.hold_opened.ensures.files ∙ e.files)
    c.in-Err-Memory.ensures.part
