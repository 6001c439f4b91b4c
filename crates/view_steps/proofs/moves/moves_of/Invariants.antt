use Rattle.std.proofs.Common.{◌≡◌, ◌++◌, map}
use Rattle.std.specs.List.{All}
use Rattle.std.specs.Vec.Iter.{into_iter_items}
use Rattle.serde_json.specs.View.{view}
use Rattle.view_picture.specs.PictureViews.{size_seen}
use Rattle.view_plan.specs.Views.{lines_seen}
use Rattle.view_steps.specs.Moves.{moves_among}
use Rattle.view_steps.specs.Views.{move_line, IsSized}
use Rattle.view_steps.proofs.moves.moves_of.Given as goal

-- the moves so far and those of what is left are all
abbrev pub invariant-loop-line : goal.invariant-loop-line
invariant-loop-line l =
    (map move_line l.moves.items
    ++ moves_among l.measure.attribute.now (lines_seen (into_iter_items l.line-iterator))
    ≡ moves_among l.measure.attribute.now (lines_seen l.fn.lines.items))
    × All (IsSized (view l.measure.whole.now) l.measure.attribute.now (map size_seen
    l.measure.sizes.now)) l.moves.items
