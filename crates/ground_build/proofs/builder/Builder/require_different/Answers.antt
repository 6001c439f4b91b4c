use Rattle.ground_build.proofs.Calls.{can_differ}
use Rattle.ground_build.proofs.builder.Builder.require_different.Goals as goal

pub state-requires-clause-new : goal.state-requires-clause-new
state-requires-clause-new c =
    can_differ c.args.self.now c.in_ok-con.con c.args.vars.now c.in_ok-con.ensures c.requires.variables
