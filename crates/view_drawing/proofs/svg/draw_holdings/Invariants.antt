use Rattle.std.proofs.Common.{◌≡◌, drop, map}
use Rattle.view_drawing.specs.CanvasViews.{sketch}
use Rattle.view_drawing.specs.Svg.{with_holdings}
use Rattle.view_picture.specs.PictureViews.{holdings_seen}
use Rattle.view_drawing.proofs.svg.draw_holdings.Given as goal

-- what is drawn, with what is left to draw, is all
abbrev pub invariant-loop-holding : goal.invariant-loop-holding
invariant-loop-holding l =
    let drawn = with_holdings (map (λ w. w.now) l.marks.failed.now) (map (λ w. w.now) l.marks.classes.now) in
    drawn (holdings_seen (drop l.holding-index l.holdings)) (sketch l.canvas)
    ≡ drawn (holdings_seen l.holdings) (sketch l.initial.canvas)
