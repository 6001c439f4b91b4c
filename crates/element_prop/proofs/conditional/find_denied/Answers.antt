use Rattle.std.proofs.Common.{sym}
use Rattle.element_prop.proofs.ConditionalLaws.{calm_denied}
use Rattle.element_prop.proofs.conditional.find_denied.Goals as goal

pub returns-then-within : goal.returns-then-within
returns-then-within c =
    calm_denied c.args.out.now c.args.flags.now c.args.item.now c.args.zero.now c.requires.flag c.requires.denied c.requires.some c.requires.out c.requires.zero (sym c.if-within.ensures.list)
