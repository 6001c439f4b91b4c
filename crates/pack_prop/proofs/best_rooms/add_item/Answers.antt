use Rattle.std.proofs.Common.{◌+ℤ◌, pos, get_or, refl, arith}
use Rattle.pack_prop.proofs.BestRows.{item_step}
use Rattle.pack_prop.proofs.best_rooms.add_item.Goals as goal

pub returns-clause-rows : goal.returns-clause-rows
returns-clause-rows c d e lt =
    item_step (c.args.first.value +ℤ pos e) _ _ c.args.items.now c.args.boxes.now c.args.k (get_or c.args.items.now c.args.k (0, 0, 0)) c.ranges_at.result.now c.brought_by.result.room.value c.brought_by.result.stays
    c.requires.within refl c.ranges_at.ensures.list c.brought_by.ensures.room c.brought_by.ensures.stays (c.requires.behind d e (omega arith)) (c.raise_ranges.ensures.rows d e (omega arith))
