use Rattle.std.proofs.Common.{get_or, refl, arith}
use Rattle.std.proofs.lemmas.Int.{ints}
use Rattle.box_rules.proofs.PackSteps.{past_item, no_item}
use Rattle.box_rules.proofs.packing.next_bin.Goals as goal

pub loop-i-preserved : goal.loop-i-preserved
loop-i-preserved g c =
    let inv = c.loop-i.invariant in let step = c.with_bin-next.ensures in
    let before = inv.from in let most = inv.upto in let after = step.from in let upto = step.upto in
    record {
      from = after;
      upto = omega (arith, ints, most, upto);
      none_before = λ u h k rest. inv.none_before u h (omega (arith, ints, upto, k))
          (past_item u c.args.items.now (g.V.View.boxes c.args.view.now) c.loop-i.i-index
          (get_or c.args.items.now c.loop-i.i-index (0, 0, 0)) c.loop-i-test.true refl
          (step.none_before u h k) rest);
    }

pub returns-clause-none_before : goal.returns-clause-none_before
returns-clause-none_before g c u h k =
    c.loop-i.invariant.none_before u h k
    (no_item u c.args.items.now (g.V.View.boxes c.args.view.now) c.loop-i.i-index
    c.loop-i-test.false)
