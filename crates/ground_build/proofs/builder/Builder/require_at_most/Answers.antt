use Rattle.std.proofs.Common.{SFits, w64}
use Rattle.std.proofs.lemmas.Int.{to_z-of_z}
use Rattle.ground_build.proofs.Calls.{can_bound}
use Rattle.ground_build.proofs.builder.Builder.require_at_most.Goals as goal

pub state-requires-clause-new : goal.state-requires-clause-new
state-requires-clause-new c =
    let fits : SFits w64 c.args.bound = c.ranges.bound in
    let con = simp to_z-of_z at c.in_ok-con.ensures in
    can_bound c.args.self.now c.in_ok-con.con c.args.terms.now c.args.bound con c.requires.variables c.requires.bounded
