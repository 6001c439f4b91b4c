use Rattle.std.proofs.Common.{◌≡◌, ◌++◌, ◌∷◌, [], ◌+◌, take, map, suc, add-one, sym, ◌∙◌}
use Rattle.view_leaves.specs.Views.{step_seen}
use Rattle.view_picture.specs.Views.{path_seen}
use Rattle.view_picture.proofs.PartLaws.{way_listed, ways_end, all_listed}
use Rattle.view_picture.proofs.ways.push_ways.Goals as goal

pub loop-last-preserved : goal.loop-last-preserved
loop-last-preserved c =
    way_listed c.args.path.now c.loop-last.last c.loop-last.parts.items c.push.new.self.items
    c.front.result c.loop-last-test.true c.front.ensures c.in_ok-push.ensures.items _
    c.loop-last.invariant

pub returns : goal.returns
returns c =
    all_listed c.args.path.now c.loop-last.last c.loop-last.parts.items c.loop-last-test.false _
    c.loop-last.invariant
