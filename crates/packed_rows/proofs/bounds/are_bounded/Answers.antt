use Rattle.std.proofs.Common.{◌^◌, get_or, refl}
use Rattle.packed_rows.proofs.SmallRowLaws.{small_rows_more, next_is_small}
use Rattle.packed_rows.proofs.bounds.are_bounded.Goals as goal

pub loop-row-preserved : goal.loop-row-preserved
loop-row-preserved c =
    small_rows_more c.args.boxes.now c.args.rows.now c.loop-row.row-index (2 ^ 60) c.loop-row.left c.in-Some.rest (get_or c.args.rows.now c.loop-row.row-index (0, 0, 0)) (0, 0, 0)
    c.loop-row-test.true refl c.in-Some.ensures.some c.loop-row.invariant

pub returns-in-None-clause-all : goal.returns-in-None-clause-all
returns-in-None-clause-all c valid bounded =
    let next = next_is_small c.args.boxes.now c.args.rows.now c.loop-row.row-index c.loop-row.left (get_or c.args.rows.now c.loop-row.row-index (0, 0, 0)) (0, 0, 0)
    c.loop-row-test.true refl valid bounded c.loop-row.invariant in
    absurd (c.in-None.ensures.none valid next.0 next.1)
