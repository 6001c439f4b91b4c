use Rattle.std.proofs.Common.{◌+ℤ◌, pos, arith}
use Rattle.pack_fit.proofs.SurveyCounts.{begun_room, ended_room, begun_item, ended_item}
use Rattle.pack_fit.proofs.survey.count_item.Goals as goal

pub count_ranges-requires-clause-begun_room : goal.count_ranges-requires-clause-begun_room
count_ranges-requires-clause-begun_room c e lt =
    begun_room _ (c.args.first.value +ℤ pos e) c.args.items.now c.args.boxes.now c.args.k c.requires.sets c.requires.within c.requires.few (c.requires.begun_behind e lt)

pub count_ranges-requires-clause-ended_room : goal.count_ranges-requires-clause-ended_room
count_ranges-requires-clause-ended_room c e lt =
    ended_room _ (c.args.first.value +ℤ pos e) c.args.items.now c.args.boxes.now c.args.k c.requires.sets c.requires.within c.requires.few (c.requires.ended_behind e (omega arith))

pub returns-clause-begun : goal.returns-clause-begun
returns-clause-begun c e lt =
    begun_item _ _ (c.args.first.value +ℤ pos e) c.args.items.now c.args.boxes.now c.args.k _ c.requires.within c.ranges_at-ranges.ensures.list (c.count_ranges.ensures.begun e (omega arith)) (c.requires.begun_behind e (omega arith))

pub returns-clause-ended : goal.returns-clause-ended
returns-clause-ended c e lt =
    ended_item _ _ (c.args.first.value +ℤ pos e) c.args.items.now c.args.boxes.now c.args.k _ c.requires.within c.ranges_at-ranges.ensures.list (c.count_ranges.ensures.ended e (omega arith)) (c.requires.ended_behind e (omega arith))
