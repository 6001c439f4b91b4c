use Rattle.std.proofs.Common.{◌+ℤ◌, pos, get_or, refl, arith}
use Rattle.pack_prop.specs.Sources.{with_part}
use Rattle.pack_prop.proofs.RoomEntries.{room_step}
use Rattle.pack_prop.proofs.room_row.add_item.Goals as goal

pub returns-clause-row : goal.returns-clause-row
returns-clause-row c e lt =
    room_step (c.args.first.value +ℤ pos e) _ _ c.args.tried.items.now (with_part c.args.tried.boxes.now c.args.tried.x c.args.tried.part.now) c.args.k (get_or c.args.tried.items.now c.args.k (0, 0, 0)) c.ranges_of.result.now c.greatest-high.result.value
    c.requires.within refl c.ranges_of.ensures c.greatest-high.ensures (c.requires.behind e (omega arith)) (c.lift_ranges.ensures.row e (omega arith))
