use Rattle.std.proofs.Common.{◌+◌, ◌-◌, ◌/◌, ◌<◌, length, sym, ◌∙◌, arith}
use Rattle.box_view.proofs.Halving.{begun_step}
use Rattle.box_view.proofs.values.begun.Goals as goal

pub loop-low-preserved : goal.loop-low-preserved
loop-low-preserved c =
    let m = c.loop-low.low + (c.loop-low.high - c.loop-low.low) / 2 in
    let is_within : m < length c.args.ranges.now = omega arith in
    record {
      left = λ u h. begun_step c.args.ranges.now m c.args.at.value u c.requires is_within (sym c.begins_by.ensures ∙ c.if-begins_by.false) h;
      reached = c.loop-low.invariant.reached;
      ordered = omega arith;
      in_range = omega arith;
    }
