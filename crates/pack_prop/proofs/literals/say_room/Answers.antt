use Rattle.pack_prop.specs.Sources.{with_part}
use Rattle.pack_prop.proofs.TotalWalk.{IsRoomSaid, room_is_said}
use Rattle.std.specs.Prelude.{slice_index_or}
use Rattle.pack_prop.proofs.literals.say_room.Goals as goal

is_said : (c : goal.In_ok-say) → IsRoomSaid c.args.tried.domains.now (with_part c.args.tried.boxes.now c.args.tried.x c.args.tried.part.now) (slice_index_or c.args.tried.items.now c.args.k (0, 0, 0)).2 c.greatest-high.result.value c.args.literals.now.items c.say.new.literals.items
is_said c =
    room_is_said c.args.tried.domains.now c.args.tried.boxes.now c.args.tried.items.now c.args.tried.x c.args.k c.args.tried.part.now c.domain_at.result.now c.in_ok-over.over c.greatest-high.result.value c.args.literals.now.items c.say.new.literals.items
    c.requires.ground c.requires.there c.requires.literals c.greatest-high.ensures c.domain_at.ensures c.in_ok-over.ensures.valid c.in_ok-over.ensures.values c.in_ok-say.ensures

pub returns-clause-literals : goal.returns-clause-literals
returns-clause-literals c = (is_said c).literals

pub returns-clause-more : goal.returns-clause-more
returns-clause-more c = (is_said c).more

pub returns-clause-upto : goal.returns-clause-upto
returns-clause-upto c = (is_said c).upto
