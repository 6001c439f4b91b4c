use Rattle.std.proofs.Common.{◌≡◌, ◌≤◌, List, [], ℕ, length, refl, subst, sym}
use Rattle.command_limits.specs.Limits.{events_bytes}
use Rattle.conf_request.specs.declared.request.Request.TheVariants.{Session}
use Rattle.desk_io.specs.Desk.{OfFile}
use Rattle.run_promise.specs.Asking.{IsShort}
use Rattle.round_commands.proofs.Holdings.{texts_denied, day_denied, opened_for}
use Rattle.round_commands.proofs.Reading.{unread_map}
use Rattle.round_commands.proofs.session.session_wished.Goals as goal

pub returns-in-Err-clause-refused : goal.returns-in-Err-clause-refused
returns-in-Err-clause-refused g c =
    let w = c.args.wish in
    let built = c.args.built in
    let reads = g.D.Desk.read_faults in
    let asked = Session [] w.former.now w.events.now w.budget w.order in
    unread_map (reads c.args.desk.now) (reads c.texts_of.new.desk) c.in-Err.status _ _
    (λ h model journal. h journal)
    (texts_denied (g.D.Desk.files c.args.desk.now) asked built.objects.now
    built.model.now.constraints built.model.now.goals [] w.former.now w.events.now w.budget w.order
    refl c.in-Err.status (reads c.args.desk.now) (reads c.texts_of.new.desk)
    c.in-Err.ensures.refused)

pub returns-in-Err-day_in-clause-refused : goal.returns-in-Err-day_in-clause-refused
returns-in-Err-day_in-clause-refused g c =
    let w = c.args.wish in
    let built = c.args.built in
    let told = g.D.Desk.files c.args.desk.now in
    let reads = g.D.Desk.read_faults in
    let e = c.in-Ok.ensures in
    let asked = Session [] w.former.now w.events.now w.budget w.order in
    unread_map (reads c.args.desk.now) (reads c.texts_of.new.desk) c.in-Err-day_in.status _ _
    (λ h model journal. h journal)
    (day_denied told asked built.objects.now built.model.now.constraints built.model.now.goals []
    w.former.now w.events.now w.budget w.order refl c.in-Err-day_in.status
    (reads c.args.desk.now) (reads c.texts_of.new.desk) c.deref.result.now c.deref-2.result.now
    (subst (λ (b : List ℕ). OfFile told w.former.now (λ r. r ≡ b)) (sym c.deref.ensures.value)
    e.former)
    (subst (λ (b : List ℕ). OfFile told w.events.now (λ r. r ≡ b)) (sym c.deref-2.ensures.value)
    e.events)
    (subst (λ (b : List ℕ). IsShort b) (sym c.deref.ensures.value) e.before)
    (subst (λ (b : List ℕ). length b ≤ events_bytes) (sym c.deref-2.ensures.value) e.short)
    c.in-Err-day_in.ensures.refused)

pub returns-in-Ok-opening-clause-asked : goal.returns-in-Ok-opening-clause-asked
returns-in-Ok-opening-clause-asked g c =
    let w = c.args.wish in
    let told = g.D.Desk.files c.args.desk.now in
    let e = c.in-Ok.ensures in
    let x = c.in-Ok-opening.ensures in
    λ model.
    opened_for told (Session model w.former.now w.events.now w.budget w.order)
    c.args.built.objects.now c.in-Ok-opening.opened model w.former.now w.events.now
    c.deref.result.now c.deref-2.result.now w.budget w.order c.in-Ok-day_in.day refl
    (subst (λ (b : List ℕ). OfFile told w.former.now (λ r. r ≡ b)) (sym c.deref.ensures.value)
    e.former)
    (subst (λ (b : List ℕ). OfFile told w.events.now (λ r. r ≡ b)) (sym c.deref-2.ensures.value)
    e.events)
    c.in-Ok-day_in.ensures.day x.situation x.events x.budget
