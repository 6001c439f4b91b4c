use Rattle.element_prop.proofs.EqualityLaws.{calm_denied}
use Rattle.element_prop.proofs.equality.find_denied.Goals as goal

pub returns-in-None : goal.returns-in-None
returns-in-None c =
    calm_denied c.args.flags.now c.args.left.now c.args.right.now c.requires.flag c.requires.denied c.requires.right c.in_default.ensures.none c.in-None.ensures.none
