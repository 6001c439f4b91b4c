use Rattle.std.proofs.Common.{arith}
use Rattle.std.proofs.lemmas.Int.{ints}
use Rattle.pack_prop.specs.Sources.{with_part}
use Rattle.pack_prop.proofs.TotalWalk.{total_begins, total_less, total_spare, total_reason}
use Rattle.pack_prop.proofs.total.explain_total.Goals as goal

pub seat_all-requires-clause-so_far : goal.seat_all-requires-clause-so_far
seat_all-requires-clause-so_far c =
    let test = c.if-is_at_most.false in let is = c.is_at_most.ensures in
    total_begins c.args.tried.domains.now c.args.tried.boxes.now c.args.tried.items.now c.args.tried.x c.in-Some.n c.args.tried.part.now c.in-Some.first.value c.sizes_of-sizes.result.value c.sum_of.result.value c.in_ok-best.best.items c.as_slice.result.now
    c.new-literals.result.items c.in-Some.ensures c.in_ok-best.ensures c.sizes_of-sizes.ensures c.as_slice.ensures.value c.sum_of.ensures (grind (arith, ints)) c.new-literals.ensures.items

pub spare_of-spare-requires : goal.spare_of-spare-requires
spare_of-spare-requires c =
    total_less c.args.tried.items.now c.args.tried.domains.now (with_part c.args.tried.boxes.now c.args.tried.x c.args.tried.part.now) _ c.sizes_of-sizes.result.value c.sum_of-2.result.value c.in_ok-row.row.items c.as_slice-2.result.now c.seat_all.new.literals.items
    c.in_ok-row.ensures c.sizes_of-sizes.ensures c.as_slice-2.ensures.value c.sum_of-2.ensures

pub weigh_all-requires-clause-so_far : goal.weigh_all-requires-clause-so_far
weigh_all-requires-clause-so_far c =
    total_spare c.args.tried.items.now c.args.tried.domains.now (with_part c.args.tried.boxes.now c.args.tried.x c.args.tried.part.now) c.sizes_of-sizes.result.value c.sum_of-2.result.value c.spare_of-spare.result.value c.in_ok-row.row.items c.as_slice-2.result.now
    c.seat_all.new.literals.items c.in_ok-row.ensures c.sizes_of-sizes.ensures c.as_slice-2.ensures.value c.sum_of-2.ensures c.spare_of-spare.ensures.some c.spare_of-spare.ensures.fits

pub pruning-requires : goal.pruning-requires
pruning-requires c = record {
  reason = total_reason c.args.con.now c.args.tried.domains.now c.args.tried.boxes.now c.args.tried.items.now c.args.tried.x c.args.tried.part.now _ c.weigh_all.new.literals.items c.requires.con c.requires.ground c.in_ok-weigh_all.ensures;
}
