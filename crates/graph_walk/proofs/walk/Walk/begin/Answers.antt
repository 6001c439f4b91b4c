use Rattle.graph_walk.proofs.WalkLaws.{begins}
use Rattle.graph_walk.proofs.walk.Walk.begin.Goals as goal

pub returns-clause-walk : goal.returns-clause-walk
returns-clause-walk c =
    begins c.args.graph.now c.args.self.now.states.items c.args.self.now.path.items c.args.self.now.done c.args.node c.args.edges c.enter.new.self.states.items c.enter.new.self.path.items c.enter.new.self.done
    c.requires.walk c.requires.path c.requires.node c.requires.new c.in_ok-enter.ensures.states c.in_ok-enter.ensures.path c.in_ok-enter.ensures.done
