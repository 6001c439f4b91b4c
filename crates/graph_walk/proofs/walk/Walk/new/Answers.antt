use Rattle.std.proofs.Common.{arith, ◌≡◌, map}
use Rattle.std.proofs.lemmas.Grind.{common_steps}
use Rattle.graph_walk.specs.Walk.{fresh}
use Rattle.graph_walk.proofs.WalkLaws.{begun_at}
use Rattle.graph_walk.proofs.walk.Walk.new.Goals as goal

pub returns-clause-walk : goal.returns-clause-walk
returns-clause-walk c =
    let all : c.loop-edges.states.items ≡ map fresh c.args.graph.now = grind (arith, common_steps) in
    begun_at c.args.graph.now c.loop-edges.states.items c.new.result.items all c.new.ensures.items
