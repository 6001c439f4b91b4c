use Rattle.std.proofs.Common.{arith, subst, sym}
use Rattle.signed_clause.specs.Clauses.{Literals}
use Rattle.pack_prop.specs.Collected.{AreCollected}
use Rattle.pack_prop.specs.Sources.{with_part}
use Rattle.pack_prop.proofs.Collecting.{collected_none}
use Rattle.pack_prop.proofs.LoadWalk.{over_begins, over_less, over_reason}
use Rattle.std.proofs.lemmas.Int.{ints}
use Rattle.pack_prop.proofs.overfull.explain_part.Goals as goal

pub say_room-requires-clause-literals : goal.say_room-requires-clause-literals
say_room-requires-clause-literals c =
    subst (λ (z : Literals). AreCollected (with_part c.args.tried.boxes.now c.args.tried.x c.args.tried.part.now) z) (sym c.new-literals.ensures.items) (collected_none (with_part c.args.tried.boxes.now c.args.tried.x c.args.tried.part.now))

pub spare_of-spare-requires : goal.spare_of-spare-requires
spare_of-spare-requires c =
    over_less c.args.at.value c.args.tried.items.now (with_part c.args.tried.boxes.now c.args.tried.x c.args.tried.part.now) c.args.k c.in_ok-room.room.value c.of.result.value c.load_at-load.result.value c.requires.over c.in_ok-room.ensures.high
    c.of.ensures c.load_at-load.ensures

pub say_load-requires-clause-so_far : goal.say_load-requires-clause-so_far
say_load-requires-clause-so_far c =
    over_begins c.args.tried.domains.now c.args.tried.boxes.now c.args.tried.items.now c.args.tried.x c.args.k c.args.tried.part.now c.args.at.value c.of.result.value c.load_at-load.result.value c.spare_of-spare.result.value
    c.say_room.new.literals.items c.say_bin.new.literals.items c.requires.ground c.requires.over c.in_ok-room.ensures.literals (let e = c.of.ensures in let h = c.in_ok-room.ensures.upto in omega (arith, ints)) c.in_ok-say_bin.ensures c.load_at-load.ensures c.spare_of-spare.ensures.some c.spare_of-spare.ensures.fits

pub pruning-requires : goal.pruning-requires
pruning-requires c = record {
  reason = over_reason c.args.con.now c.args.tried.domains.now c.args.tried.boxes.now c.args.tried.items.now c.args.tried.x c.args.tried.part.now c.args.at.value _ c.say_load.new.literals.items c.requires.con c.requires.ground c.in_ok-say_load.ensures;
}
