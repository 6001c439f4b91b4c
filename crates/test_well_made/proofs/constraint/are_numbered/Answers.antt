use Rattle.std.proofs.Common.{arith}
use Rattle.test_well_made.proofs.Making.{all_numbered}
use Rattle.test_well_made.proofs.constraint.are_numbered.Goals as goal

pub returns : goal.returns
returns c = λ yes. all_numbered c.loop-i.i c.args.items.now (let end = c.loop-i-test.false in omega arith) c.loop-i.invariant
