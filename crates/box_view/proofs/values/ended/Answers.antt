use Rattle.std.proofs.Common.{◌+◌, ◌-◌, ◌/◌, ◌<◌, length, sym, ◌∙◌, arith}
use Rattle.box_view.proofs.Halving.{ended_step}
use Rattle.box_view.proofs.values.ended.Goals as goal

pub loop-low-preserved-then-ends_before : goal.loop-low-preserved-then-ends_before
loop-low-preserved-then-ends_before c =
    let m = c.loop-low.low + (c.loop-low.high - c.loop-low.low) / 2 in
    let is_within : m < length c.args.ranges.now = omega arith in
    record {
      left = λ u h. ended_step c.args.ranges.now m c.args.at.value u c.requires is_within (sym c.ends_before.ensures ∙ c.if-ends_before.true) h;
      reached = c.loop-low.invariant.reached;
      ordered = omega arith;
      in_range = omega arith;
    }
