use Rattle.std.proofs.Common.{refl}
use Rattle.round_commands.proofs.Stepping.{cut_short, cut_printing, on_err}
use Rattle.round_commands.specs.Events.{situation_of}
use Rattle.run_promise.specs.Sessions.{subject}
use Rattle.round_commands.proofs.event.answer_event.Goals as goal

pub returns-in_default-clause-cut : goal.returns-in_default-clause-cut
returns-in_default-clause-cut g c =
    let with = c.args.with in
    let o = with.built.objects.now in
    let s = subject o with.built.model.now.constraints with.built.model.now.goals with.budget in
    let p = situation_of c.args.session.now.state in
    let e = c.args.event.now in
    let rounds = c.args.journal.now.rounds in
    let now = c.answered.new.journal.rounds in
    let printed = g.D.Desk.printed c.args.desk.now in
    cut_short s p e rounds now printed printed refl c.in_default.ensures.cut

pub returns-in_err-print_all-clause-cut : goal.returns-in_err-print_all-clause-cut
returns-in_err-print_all-clause-cut g c =
    let with = c.args.with in
    let o = with.built.objects.now in
    let s = subject o with.built.model.now.constraints with.built.model.now.goals with.budget in
    let p = situation_of c.args.session.now.state in
    let e = c.args.event.now in
    let rounds = c.args.journal.now.rounds in
    let now = c.answered.new.journal.rounds in
    let printed = g.D.Desk.printed c.args.desk.now in
    let answer = c.in-Ok.answer in
    on_err c.from_residual.result _
    (cut_printing s p e rounds now answer.told answer.text.items c.deref.result.now printed
    (g.D.Desk.printed c.print_all.new.desk) c.deref.ensures.value c.in-Ok.ensures.round
    c.in_err-print_all.ensures.err)
