use Rattle.std.proofs.Common.{arith}
use Rattle.std.proofs.lemmas.Int.{ints}
use Rattle.pack_prop.proofs.TotalWalk.{seated_raised, seated_short}
use Rattle.pack_prop.proofs.total.seat.Goals as goal

pub returns-then-not-is_at_most : goal.returns-then-not-is_at_most
returns-then-not-is_at_most c =
    let test = c.if-not-is_at_most.true in let is = c.is_at_most.ensures in
    seated_raised c.args.tried.domains.now c.args.tried.boxes.now c.args.tried.items.now c.args.tried.x c.args.k c.args.tried.part.now c.domain_at.result.now c.in_ok-high.high.value c.args.sizes.value c.sum_of.result.value c.args.row.items c.as_slice.result.now
    c.in_ok-more.more.items c.as_slice-2.result.now c.args.literals.now.items c.say_room.new.literals.items c.requires.ground c.requires.there c.requires.sizes c.requires.so_far c.in_ok-high.ensures.literals c.in_ok-high.ensures.more
    c.in_ok-high.ensures.upto c.domain_at.ensures c.as_slice.ensures.value c.in_ok-more.ensures c.as_slice-2.ensures.value c.sum_of.ensures (grind (arith, ints))

pub returns : goal.returns
returns c =
    seated_short c.args.tried.domains.now c.args.tried.boxes.now c.args.tried.items.now c.args.tried.x c.args.k c.args.tried.part.now c.domain_at-2.result.now c.in_ok-short.short c.in_ok-high.high.value c.args.row.items c.as_slice-3.result.now
    c.args.literals.now.items c.say_room.new.literals.items c.say.new.literals.items c.requires.ground c.requires.there c.requires.so_far c.in_ok-high.ensures.literals c.in_ok-high.ensures.more c.in_ok-high.ensures.high
    c.in_ok-high.ensures.upto c.domain_at-2.ensures c.as_slice-3.ensures.value c.in_ok-short.ensures.valid c.in_ok-short.ensures.values c.in_ok-say.ensures
