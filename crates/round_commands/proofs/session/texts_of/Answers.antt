use Rattle.std.proofs.Common.{inl, subst}
use Rattle.desk_io.specs.Desk.{OfFile}
use Rattle.run_promise.specs.Refusal.{AreEventsLong}
use Rattle.round_commands.proofs.Holdings.{long_events}
use Rattle.round_commands.proofs.Reading.{unread_map}
use Rattle.round_commands.specs.Unreadable.{Unreadable}
use Rattle.round_commands.proofs.session.texts_of.Goals as goal

pub returns-in-Err-clause-refused : goal.returns-in-Err-clause-refused
returns-in-Err-clause-refused g c =
    let d = g.D.Desk in
    unread_map (d.read_faults c.args.desk.now) (d.read_faults c.config_bytes.new.desk)
    c.in-Err.status _ _ (λ h. inl h) c.in-Err.ensures.long

pub returns-in-Err-event_bytes-clause-refused : goal.returns-in-Err-event_bytes-clause-refused
returns-in-Err-event_bytes-clause-refused g c =
    let d = g.D.Desk in
    let before = c.args.desk.now in
    let mid = c.config_bytes.new.desk in
    let now = c.event_bytes.new.desk in
    let e = c.in-Ok.ensures in
    let s = c.in-Err-event_bytes.status in
    long_events (d.files before) c.args.former.now c.args.events.now c.in-Ok.before.items
    (d.read_faults before) (d.read_faults mid) (d.read_faults now) s e.bytes e.short e.read_faults
    (subst
    (λ t. Unreadable (d.read_faults mid) (d.read_faults now) s
    (OfFile t c.args.events.now (λ bytes. AreEventsLong bytes s)))
    e.files c.in-Err-event_bytes.ensures.refused)
