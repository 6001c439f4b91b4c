use Rattle.std.proofs.Common.{◌≡◌, drop, map}
use Rattle.view_drawing.specs.CanvasViews.{sketch}
use Rattle.view_drawing.specs.Svg.{with_guests}
use Rattle.view_picture.specs.PictureViews.{guest_seen}
use Rattle.view_drawing.proofs.svg.draw_guests.Given as goal

-- what is drawn, with what is left to draw, is all
abbrev pub invariant-loop-guest : goal.invariant-loop-guest
invariant-loop-guest l =
    let drawn = with_guests (map (λ w. w.now) l.marks.failed.now) (map (λ w. w.now) l.marks.classes.now) in
    drawn (map guest_seen (drop l.guest-index l.guests)) (sketch l.canvas)
    ≡ drawn (map guest_seen l.guests) (sketch l.initial.canvas)
