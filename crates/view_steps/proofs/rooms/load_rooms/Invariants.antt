use Rattle.std.proofs.Common.{◌≡◌, ◌++◌, drop, map}
use Rattle.view_picture.specs.PictureViews.{load_seen}
use Rattle.view_steps.specs.Rooms.{load_room}
use Rattle.view_steps.proofs.rooms.load_rooms.Given as goal

-- the rooms so far and those of what is left are all
abbrev pub invariant-loop-load : goal.invariant-loop-load
invariant-loop-load l =
    l.list.items ++ map load_room (map load_seen (drop l.load-index l.loads))
    ≡ map load_room (map load_seen l.loads)
