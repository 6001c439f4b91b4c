use Rattle.std.proofs.Common.{rules, []}
use Rattle.pack_prop.specs.Sources.{with_part}
use Rattle.pack_prop.proofs.RoomEntries.{begins, filled}
use Rattle.pack_prop.proofs.room_row.best_row.Goals as goal

pub add_items-requires-clause-none : goal.add_items-requires-clause-none
add_items-requires-clause-none c =
    let boxes = with_part c.args.tried.boxes.now c.args.tried.x c.args.tried.part.now in
    begins c.args.n c.args.first.value [] boxes c.in_ok-row.row.items c.as_mut_slice.result.now c.as_mut_slice.ensures.value (c.in_ok-row.ensures boxes)

pub returns : goal.returns
returns c =
    let boxes = with_part c.args.tried.boxes.now c.args.tried.x c.args.tried.part.now in
    filled c.args.n c.in_ok-row.row.len c.args.first.value c.args.tried.items.now boxes c.add_items.new.row c.as_mut_slice.result.now c.in_ok-row.row.items c.as_mut_slice.ensures.value (search rules) (c.in_ok-row.ensures boxes)
    c.add_items.ensures.size c.add_items.ensures.row
