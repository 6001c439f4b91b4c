use Rattle.std.proofs.Common.{◌≡◌, drop, map}
use Rattle.view_drawing.specs.CanvasViews.{sketch}
use Rattle.view_drawing.specs.Svg.{with_loads}
use Rattle.view_picture.specs.PictureViews.{load_seen}
use Rattle.view_drawing.proofs.svg.draw_loads.Given as goal

-- what is drawn, with what is left to draw, is all
abbrev pub invariant-loop-load : goal.invariant-loop-load
invariant-loop-load l =
    with_loads (map load_seen (drop l.load-index l.loads)) (sketch l.canvas)
    ≡ with_loads (map load_seen l.loads) (sketch l.initial.canvas)
