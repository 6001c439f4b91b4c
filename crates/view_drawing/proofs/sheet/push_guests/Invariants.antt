use Rattle.std.proofs.Common.{◌≡◌, ◌++◌, false, drop, map}
use Rattle.view_drawing.specs.Sheet.{guests_text}
use Rattle.view_picture.specs.PictureViews.{guest_seen}
use Rattle.view_drawing.proofs.sheet.push_guests.Given as goal

-- what is written and what is left to write are all
abbrev pub invariant-loop-guest : goal.invariant-loop-guest
invariant-loop-guest l =
    l.text.items
    ++ guests_text (map (λ w. w.now) l.failed) l.later (map guest_seen (drop l.guest-index l.guests))
    ≡ l.initial.text.items
    ++ guests_text (map (λ w. w.now) l.failed) false (map guest_seen l.guests)
