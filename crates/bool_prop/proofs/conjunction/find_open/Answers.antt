use Rattle.std.proofs.Common.{arith}
use Rattle.bool_prop.proofs.ConjunctionQuiet.{open_end}
use Rattle.bool_prop.proofs.conjunction.find_open.Goals as goal

pub returns-then-is_open-2 : goal.returns-then-is_open-2
returns-then-is_open-2 c =
    let h = c.loop-i-test.false in
    open_end c.args.flag c.args.parts.now c.args.boxes.now c.loop-i.i c.loop-i.is_open c.requires.scene c.requires.can_hold c.requires.can_fail (omega arith)
    c.loop-i.invariant.some c.loop-i.invariant.all c.loop-i.invariant.flag c.if-is_open-2.true
