use Rattle.round_commands.proofs.Holdings.{event_denied}
use Rattle.round_commands.proofs.session.day_in.Goals as goal

pub returns-in-Err-clause-refused : goal.returns-in-Err-clause-refused
returns-in-Err-clause-refused c =
    event_denied c.args.built.objects.now c.args.before.now c.args.bytes.now c.in-Err.status
    c.in_ok-repair.repair c.in_ok-repair.ensures.repair c.in-Err.ensures.refused
