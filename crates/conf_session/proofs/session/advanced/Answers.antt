use Rattle.conf_session.proofs.StepLaws.{over_behind, step_of}
use Rattle.conf_session.proofs.session.advanced.Goals as goal

pub searched-requires-clause-over : goal.searched-requires-clause-over
searched-requires-clause-over g c =
    let e = c.in_ok-state.ensures in
    over_behind c.args.objects.now c.args.event.now c.args.state c.in_ok-state.state c.requires.over c.requires.named e.ground e.failed e.former e.begun

pub returns-clause-step : goal.returns-clause-step
returns-clause-step g c =
    let e = c.in_ok-state.ensures in
    step_of c.args.objects.now c.args.event.now (g.F.Finder.allowed c.args.finder.now) c.args.state
    c.in_ok-state.state c.in_ok-new.new c.args.journal.now c.searched.new.journal
    c.closed.new.journal
    (record { repair = c.in_ok-repair.repair; verdict = c.in_ok-verdict.verdict }) c.requires.over
    c.requires.named e.ground e.failed e.former e.begun c.in_ok-verdict.ensures.searched
    c.in_ok-verdict.ensures.rounds c.in_ok-repair.ensures.former c.in_ok-repair.ensures.failed
    c.in_ok-new.ensures.closed
