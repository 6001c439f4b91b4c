use Rattle.std.proofs.Common.{refl, subst}
use Rattle.std.specs.List.{All}
use Rattle.std.proofs.lemmas.List.{take_all}
use Rattle.std.proofs.lemmas.List.Elements.{All-more}
use Rattle.packed_rows.specs.Plans.{IsRowOf}
use Rattle.packed_rows.proofs.plan.are_rows.Goals as goal

pub loop-row-preserved : goal.loop-row-preserved
loop-row-preserved c =
    All-more (IsRowOf c.args.boxes.now c.args.items.now c.args.most.value) c.args.rows.now c.loop-row.row-index c.row-item.result c.loop-row-test.true c.loop-row.invariant
    (subst (IsRowOf c.args.boxes.now c.args.items.now c.args.most.value) c.row-item.is (c.if-not-is_row.ensures refl))

pub returns : goal.returns
returns c h = subst (All (IsRowOf c.args.boxes.now c.args.items.now c.args.most.value)) (take_all c.loop-row.row-index c.args.rows.now c.loop-row-test.false) c.loop-row.invariant
