use Rattle.std.proofs.Common.{◌≡◌, ◌≤◌}
use Rattle.round_commands.specs.Events.{IsBetween, IsUpTo, situation_of}
use Rattle.run_promise.specs.Sessions.{subject}
use Rattle.round_commands.proofs.holding.hold_session.Given as goal

-- the first events are answered
abbrev pub invariant-loop-event : goal.invariant-loop-event
invariant-loop-event g l =
    let d = g.D.Desk in
    let with = l.with in
    let s = subject with.built.objects.now with.built.model.now.constraints with.built.model.now.goals with.budget in
    record {
      up : IsUpTo s (situation_of l.fn.session.state) l.events l.event-index l.journal.rounds (d.printed l.fn.desk) (d.printed l.desk) l.session.state l.undecided l.lacking;
      between : IsBetween l.journal;
      budget : g.F.Finder.allowed l.finder ≡ with.budget;
      files : d.files l.desk ≡ d.files l.fn.desk;
      write_faults : d.write_faults l.fn.desk ≤ d.write_faults l.desk;
      read_faults : d.read_faults l.desk ≡ d.read_faults l.fn.desk;
    }
