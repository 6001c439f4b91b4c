use Rattle.std.proofs.Common.{ℕ, ◌<◌, length, ℤ, pos, subst, arith}
use Rattle.std.specs.List.{All}
use Rattle.std.proofs.lemmas.List.{take_all}
use Rattle.std.proofs.lemmas.List.Elements.{All-more}
use Rattle.packed_rows.proofs.plan.are_variables.Goals as goal

pub loop-item-preserved : goal.loop-item-preserved
loop-item-preserved c =
    All-more (λ (i : ℕ × ℤ). i.0 < length c.args.boxes.now) c.args.items.now c.loop-item.item-index (0, pos 0) c.loop-item-test.true c.loop-item.invariant
    (omega (arith, c.if-boxes-item.false))

pub returns : goal.returns
returns c h = subst (All (λ (i : ℕ × ℤ). i.0 < length c.args.boxes.now)) (take_all c.loop-item.item-index c.args.items.now c.loop-item-test.false) c.loop-item.invariant
