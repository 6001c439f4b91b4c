use Rattle.std.proofs.Common.{pos}
use Rattle.stated_facts.proofs.claims.claim_zeros.Goals as goal

pub loop-t-preserved : goal.loop-t-preserved
loop-t-preserved c a zeros held =
    c.in_ok-claim_value.ensures a (zeros c.loop-t.t-index (pos 0, 0) c.loop-t-test.true) (c.loop-t.invariant a zeros held)
