use Rattle.std.proofs.Common.{◌≡◌, drop, map}
use Rattle.view_drawing.specs.Classes.{with_guests}
use Rattle.view_picture.specs.PictureViews.{guest_seen}
use Rattle.view_drawing.proofs.classes.add_guests.Given as goal

-- the classes so far with those of what is left are all
abbrev pub invariant-loop-guest : goal.invariant-loop-guest
invariant-loop-guest l =
    with_guests (map (λ w. w.now) l.classes.items) (map guest_seen (drop l.guest-index l.guests))
    ≡ with_guests (map (λ w. w.now) l.initial.classes.items) (map guest_seen l.guests)
