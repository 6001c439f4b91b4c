use Rattle.test_well_made.proofs.Problems.{made_step}
use Rattle.test_well_made.proofs.problem.are_constraints_well_made.Goals as goal

pub loop-con-preserved : goal.loop-con-preserved
loop-con-preserved c = λ more. c.loop-con.invariant (made_step c.args.cons.now c.args.domains.now c.loop-con.con-index c.con-item.result _ c.loop-con-test.true c.con-item.is (c.in_ok-is_constraint_well_made.ensures c.if-not-branch.false) more)
