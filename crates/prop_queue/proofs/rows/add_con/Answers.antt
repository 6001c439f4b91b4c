use Rattle.std.proofs.Common.{◌∙◌, length}
use Rattle.prop_queue.proofs.RowLaws.{vars_below}
use Rattle.prop_queue.proofs.rows.add_con.Goals as goal

pub push_all-requires : goal.push_all-requires
push_all-requires c =
    vars_below c.args.cons.now c.args.k
    (length c.args.rows.now) c.as_slice.result.now c.requires.named
    c.requires.there (λ con at. c.as_slice.ensures.value ∙ c.in_ok-vars.ensures con at)
