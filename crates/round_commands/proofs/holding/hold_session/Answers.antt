use Rattle.std.proofs.Common.{◌∙◌, refl, sym, subst, arith, IsSome}
use Rattle.std.proofs.lemmas.List.Elements.{All-get_or}
use Rattle.conf_events.specs.declared.event.Event.{Event}
use Rattle.object_alloc.specs.Paths.{object_named}
use Rattle.round_commands.proofs.Answering.{up_to_none, up_to_more, begun_cut}
use Rattle.round_commands.proofs.Stepping.{on_err}
use Rattle.round_commands.specs.Events.{situation_of}
use Rattle.run_promise.specs.Sessions.{subject}
use Rattle.round_commands.proofs.holding.hold_session.Goals as goal

pub loop-event-init : goal.loop-event-init
loop-event-init g c =
    let with = c.args.with in
    let o = with.built.objects.now in
    let s = subject o with.built.model.now.constraints with.built.model.now.goals with.budget in
    let p = situation_of c.args.session.state in
    let events = c.args.events.now in
    let printed = g.D.Desk.printed c.args.desk.now in
    record {
      up = up_to_none s p events c.args.journal.now.rounds printed c.args.session.state
          c.requires.rounds c.requires.at;
      between = c.requires.between;
      budget = c.requires.budget;
      files = refl;
      write_faults = omega arith;
      read_faults = refl;
    }

pub answer_event-requires-clause-named : goal.answer_event-requires-clause-named
answer_event-requires-clause-named g c =
    let o = c.args.with.built.objects.now in
    let e = c.event-item.result in
    subst (λ (x : Event). IsSome (object_named o x.path)) (sym c.event-item.is)
    (All-get_or (λ (x : Event). IsSome (object_named o x.path)) c.args.events.now
    c.loop-event.event-index e c.loop-event-test.true c.requires.named)

pub returns-in_err-told-clause-cut : goal.returns-in_err-told-clause-cut
returns-in_err-told-clause-cut g c =
    let with = c.args.with in
    let o = with.built.objects.now in
    let s = subject o with.built.model.now.constraints with.built.model.now.goals with.budget in
    let p = situation_of c.args.session.state in
    let events = c.args.events.now in
    let printed = g.D.Desk.printed c.args.desk.now in
    let l = c.loop-event in
    let k = l.event-index in
    let rounds = l.journal.rounds in
    let now = c.answer_event.new.journal.rounds in
    let printed_now = g.D.Desk.printed l.desk in
    let printed_next = g.D.Desk.printed c.answer_event.new.desk in
    let e = c.event-item.result in
    on_err c.from_residual.result _
    (begun_cut s p events k rounds now printed printed_now printed_next l.session.state l.undecided
    l.lacking e c.loop-event-test.true c.event-item.is l.invariant.up c.in_err-told.ensures.cut)

pub loop-event-preserved : goal.loop-event-preserved
loop-event-preserved g c =
    let with = c.args.with in
    let o = with.built.objects.now in
    let s = subject o with.built.model.now.constraints with.built.model.now.goals with.budget in
    let p = situation_of c.args.session.state in
    let events = c.args.events.now in
    let printed = g.D.Desk.printed c.args.desk.now in
    let l = c.loop-event in
    let k = l.event-index in
    let rounds = l.journal.rounds in
    let now = c.answer_event.new.journal.rounds in
    let printed_now = g.D.Desk.printed l.desk in
    let printed_next = g.D.Desk.printed c.answer_event.new.desk in
    let e = c.event-item.result in
    let inv = l.invariant in
    let call = c.answer_event.ensures in
    let before = inv.write_faults in
    let more = call.write_faults in
    record {
      up = up_to_more s p events k rounds now printed printed_now printed_next l.session.state
          c.answer_event.new.session.state l.undecided l.lacking c.some_open-undecided.result
          c.some_none-lacking.result e c.in_ok-told.told c.loop-event-test.true c.event-item.is inv.up
          c.in_ok-told.ensures.round c.in_ok-told.ensures.at c.some_open-undecided.ensures
          c.some_none-lacking.ensures;
      between = c.in_ok-told.ensures.between;
      budget = call.budget ∙ inv.budget;
      files = call.files ∙ inv.files;
      write_faults = omega (arith, before, more);
      read_faults = call.read_faults ∙ inv.read_faults;
    }
