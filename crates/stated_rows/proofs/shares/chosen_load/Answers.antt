use Rattle.std.proofs.Common.{Contains, subst}
use Rattle.ground_form.specs.declared.con.Con.{Con}
use Rattle.stated_rows.proofs.ShareLaws.{chosen_share}
use Rattle.stated_rows.proofs.shares.chosen_load.Goals as goal

pub returns : goal.returns
returns c =
    let g = c.args.maker.now in
    chosen_share g c.in_ok-x.x c.args.bin c.in_ok-flag.flag c.in_ok-flag.item c.args.t c.in_ok-size.size (subst (λ (z : Con). Contains g.cons z) c.in_ok-flag.ensures c.in_ok-definition.ensures) c.in_ok-x.ensures c.in_ok-size.ensures
