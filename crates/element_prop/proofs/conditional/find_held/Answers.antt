use Rattle.std.proofs.Common.{sym}
use Rattle.element_prop.proofs.ConditionalLaws.{calm_held}
use Rattle.element_prop.proofs.conditional.find_held.Goals as goal

pub returns : goal.returns
returns c =
    calm_held c.args.out.now c.args.flags.now c.args.item.now c.requires.flag c.requires.held c.requires.some c.requires.out c.requires.item
    (sym c.if-not-within.ensures.list) (sym c.if-not-within-2.ensures.list)
