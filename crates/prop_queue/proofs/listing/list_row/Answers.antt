use Rattle.std.proofs.Common.{arith}
use Rattle.prop_queue.proofs.RowLaws.{has_at}
use Rattle.prop_queue.proofs.listing.list_row.Goals as goal

pub list-requires : goal.list-requires
list-requires c =
    let below = c.requires _ (has_at c.args.row.now c.loop-k.k-index 0 c.loop-k-test.true) in
    let size = c.loop-k.invariant.0 in
    omega arith
