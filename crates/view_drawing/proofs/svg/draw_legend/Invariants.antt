use Rattle.std.proofs.Common.{◌≡◌, drop, map}
use Rattle.view_drawing.specs.CanvasViews.{sketch}
use Rattle.view_drawing.specs.Svg.{with_legend}
use Rattle.view_drawing.proofs.svg.draw_legend.Given as goal

-- what is drawn, with what is left to draw, is all
abbrev pub invariant-loop-index : goal.invariant-loop-index
invariant-loop-index l =
    with_legend l.index (map (λ w. w.now) (drop l.index l.classes)) (sketch l.canvas)
    ≡ with_legend 0 (map (λ w. w.now) l.classes) (sketch l.initial.canvas)
