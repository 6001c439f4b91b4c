use Rattle.std.proofs.Common.{arith}
use Rattle.numbered_clauses.specs.Coded.{ranges_at, behind_ranges}
use Rattle.numbered_clauses.proofs.ReadSteps.{ranges_more, behind_more}
use Rattle.numbered_clauses.proofs.packed_reading.read_ranges.Goals as goal

pub loop-more-preserved : goal.loop-more-preserved
loop-more-preserved c = record {
  ranges = ranges_more c.loop-more.out.items c.push.new.self.items (ranges_at c.args.count c.args.text.now) c.loop-more.more c.loop-more.left.now c.read_range.result.1.now c.read_range.result.0
      (omega arith) c.in_ok-push.ensures.items c.loop-more.invariant.ranges c.read_range.ensures.range c.read_range.ensures.behind;
  behind = behind_more (behind_ranges c.args.count c.args.text.now) c.loop-more.left.now c.read_range.result.1.now c.loop-more.more
      (omega arith) c.loop-more.invariant.behind c.read_range.ensures.behind;
}
