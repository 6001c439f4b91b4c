use Rattle.std.proofs.Common.{arith, rules}
use Rattle.view_picture.proofs.PartLaws.{steps_known}
use Rattle.view_picture.proofs.ways.known.Goals as goal

pub returns-else-number-eq0 : goal.returns-else-number-eq0
returns-else-number-eq0 c =
    steps_known c.args.leaves.now c.args.number c.shared.result c.index-leaves-number.result
    c.index-leaves-number-else-number-eq0.result c.deref.result.now
    c.deref-else-number-eq0.result.now (λ e. omega (arith, c.if-number-eq0.false, e)) c.requires
    c.index-leaves-number.is c.index-leaves-number-else-number-eq0.is
    (search rules) (search rules) c.shared.ensures.steps
