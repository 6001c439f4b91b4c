use Rattle.std.proofs.Common.{arith}
use Rattle.view_picture.proofs.PartLaws.{shared_end}
use Rattle.view_picture.proofs.ways.shared.Goals as goal

pub returns-then-i-right-clause-steps : goal.returns-then-i-right-clause-steps
returns-then-i-right-clause-steps c =
    let none = shared_end c.args.left.now c.args.right.now c.loop-i.i c.if-i-right.true in
    omega (arith, none, c.loop-i.invariant.1)
