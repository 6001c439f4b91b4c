use Rattle.std.proofs.Common.{◌≡◌, ◌++◌, drop, map}
use Rattle.serde_json.specs.View.{view}
use Rattle.view_leaves.specs.Views.{step_seen}
use Rattle.view_picture.specs.PictureViews.{size_seen}
use Rattle.view_steps.specs.Moves.{amounts, turned}
use Rattle.view_steps.proofs.moves.turned.Given as goal

-- the sizes so far and those of what is left are all
abbrev pub invariant-loop-size : goal.invariant-loop-size
invariant-loop-size l =
    l.list.items ++ turned (amounts (view l.measure.whole.now) (map size_seen (drop l.size-index l.measure.sizes.now)) (map step_seen l.owner))
    ≡ turned (amounts (view l.measure.whole.now) (map size_seen l.measure.sizes.now) (map step_seen l.owner))
