use Rattle.std.proofs.Common.{None}
use Rattle.model_search.proofs.RepairProblems.{as_many_hints}
use Rattle.round_commands.proofs.session.session_of.Goals as goal

pub new-session-requires-clause-hints : goal.new-session-requires-clause-hints
new-session-requires-clause-hints c =
    as_many_hints c.args.built.objects.now c.args.built.model.now.constraints
    c.args.built.model.now.goals None c.in_ok-g.g c.args.former c.in_ok-g.ensures.problem
    c.requires.hints
