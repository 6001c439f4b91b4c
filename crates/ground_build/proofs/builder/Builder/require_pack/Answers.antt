use Rattle.ground_build.proofs.Calls.{can_pack}
use Rattle.ground_build.proofs.builder.Builder.require_pack.Goals as goal

pub state-requires-clause-new : goal.state-requires-clause-new
state-requires-clause-new c =
    can_pack c.args.self.now c.in_ok-con.con c.args.items.now c.in_ok-con.ensures c.requires.variables c.requires.bounded
