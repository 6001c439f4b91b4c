use Rattle.std.proofs.Common.{sym, ◌∙◌}
use Rattle.std.proofs.lemmas.Result.{on_ok_weaker}
use Rattle.graph_walk.proofs.ChildLaws.{child_more}
use Rattle.graph_walk.proofs.parents.link.Goals as goal

pub returns-in-Some : goal.returns-in-Some
returns-in-Some g c =
    let up = g.P.Parents.up c.args.family.now in
    let n = g.P.Parents.size c.args.family.now in
    let is_up = sym c.parent.ensures ∙ c.in-Some.is in
    record {
      graph = on_ok_weaker c.add_child.result (child_more up n c.args.node c.in-Some.parent c.args.graph.now.items c.add_child.new.graph.items c.requires.graph c.requires.node (c.requires.parents c.args.node c.in-Some.parent is_up) is_up) c.add_child.ensures.graph;
    }
