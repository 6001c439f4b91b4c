use Rattle.std.proofs.Common.{arith, sym, ◌∙◌}
use Rattle.box_rules.proofs.LoadRows.{put_here, put_nowhere}
use Rattle.box_rules.proofs.fixed_items.with_item.Goals as goal

pub returns-then-is_put-clause-row : goal.returns-then-is_put-clause-row
returns-then-is_put-clause-row g c =
    let size = c.told-row in let few = c.requires.few in
    put_here c.args.row.now c.args.count c.read.result c.args.i (g.V.View.boxes c.args.view.now)
    (omega arith) c.read.ensures (sym c.is_put.ensures ∙ c.if-is_put.true)

pub returns-clause-row : goal.returns-clause-row
returns-clause-row g c =
    put_nowhere c.args.row.now c.args.count c.args.i (g.V.View.boxes c.args.view.now)
    (sym c.is_put.ensures ∙ c.if-is_put.false)
