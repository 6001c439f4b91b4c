use Rattle.std.proofs.Common.{sym}
use Rattle.element_prop.proofs.EqualityLaws.{calm_held}
use Rattle.element_prop.proofs.equality.find_held.Goals as goal

pub returns : goal.returns
returns c =
    calm_held c.args.flags.now c.args.left.now c.args.right.now c.requires.flag c.requires.held c.requires.some c.requires.left c.requires.right
    (sym c.if-not-within.ensures.list) (sym c.if-not-within-2.ensures.list)
