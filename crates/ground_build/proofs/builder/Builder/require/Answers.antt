use Rattle.ground_build.proofs.Calls.{can_require}
use Rattle.ground_build.proofs.builder.Builder.require.Goals as goal

pub state-requires-clause-new : goal.state-requires-clause-new
state-requires-clause-new c =
    can_require c.args.self.now c.in_ok-con.con c.args.c c.in_ok-con.ensures.value c.of_clause.ensures.form c.requires.variables
