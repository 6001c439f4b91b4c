use Rattle.rule_law.proofs.CutToLaws.{no_part}
use Rattle.rule_law.proofs.narrow.push_part.Goals as goal

pub returns-else-l-domains : goal.returns-else-l-domains
returns-else-l-domains c =
    no_part c.args.domains.now c.args.l.now c.args.cut.now.items c.if-l-domains.false
