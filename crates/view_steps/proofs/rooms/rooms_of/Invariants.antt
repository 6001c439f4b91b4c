use Rattle.std.proofs.Common.{◌≡◌, ℕ, List, Bor, drop, map}
use Rattle.view_picture.specs.PictureViews.{scale_seen}
use Rattle.view_steps.specs.Rooms.{found, first_of, first_rooms}
use Rattle.view_steps.proofs.rooms.rooms_of.Given as goal

-- what is noted, or else what is left to note, is that of all
abbrev pub invariant-loop-scale : goal.invariant-loop-scale
invariant-loop-scale l =
    (w : Bor (List ℕ))
    → first_of (found l.rooms.entries w.now) (first_rooms (map scale_seen (drop l.scale-index
    l.scales)) w.now)
    ≡ first_rooms (map scale_seen l.scales) w.now
