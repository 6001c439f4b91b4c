use Rattle.box_rules.proofs.LoadRows.{few_over}
use Rattle.box_rules.proofs.fixed_items.are_few_overfull.Goals as goal

pub returns : goal.returns
returns g c =
    few_over c.is_some_over.result _ c.args.items.now (g.V.View.boxes c.args.view.now)
    c.is_some_over.ensures c.fixed_row-count.ensures.row
