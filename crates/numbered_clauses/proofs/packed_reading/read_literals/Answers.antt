use Rattle.std.proofs.Common.{arith}
use Rattle.numbered_clauses.specs.Coded.{literals_at}
use Rattle.numbered_clauses.proofs.ReadSteps.{literals_more, rest_valid}
use Rattle.numbered_clauses.proofs.packed_reading.read_literals.Goals as goal

pub loop-more-preserved : goal.loop-more-preserved
loop-more-preserved c = record {
  literals = literals_more c.loop-more.out.items c.push.new.self.items (literals_at c.args.count c.args.text.now) c.loop-more.more c.loop-more.left.now c.in_ok-literal.behind.now c.in_ok-literal.literal
      (omega arith) c.in_ok-push.ensures.items c.loop-more.invariant.literals c.in_ok-literal.ensures.literal c.in_ok-literal.ensures.behind;
  valid = rest_valid c.loop-more.more c.loop-more.left.now c.in_ok-literal.behind.now (omega arith) c.loop-more.invariant.valid c.in_ok-literal.ensures.behind;
}
