use Rattle.std.proofs.Common.{subst}
use Rattle.conf_session.specs.Steps.{Steps}
use Rattle.round_commands.proofs.Stepping.{has_stepped}
use Rattle.round_commands.specs.Events.{situation_of}
use Rattle.run_promise.specs.Sessions.{subject}
use Rattle.round_commands.proofs.event.stepped.Goals as goal

pub returns-clause-step : goal.returns-clause-step
returns-clause-step g c =
    let with = c.args.with in
    let o = with.built.objects.now in
    let s = subject o with.built.model.now.constraints with.built.model.now.goals with.budget in
    let before = c.args.journal.now in
    let after = c.step.new.journal in
    let old = c.args.session.now.state in
    let new = c.step.new.self.state in
    let step = c.in_ok-step.step in
    let e = c.args.event.now in
    has_stepped s (situation_of old) e before after old new step c.requires.at
    (subst (λ b. Steps o e b old new before after step) c.requires.budget
    c.in_ok-step.ensures.step)
