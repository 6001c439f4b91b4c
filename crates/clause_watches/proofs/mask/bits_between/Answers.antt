use Rattle.clause_watches.proofs.MaskLaws.{bits_from, bits_between}
use Rattle.clause_watches.proofs.mask.bits_between.Goals as goal

pub returns-clause-first : goal.returns-clause-first
returns-clause-first c =
    λ j e. (bits_from c.args.first c.args.last j c.requires.order c.requires.within e).0

pub returns-clause-last : goal.returns-clause-last
returns-clause-last c =
    λ j e. (bits_from c.args.first c.args.last j c.requires.order c.requires.within e).1

pub returns-clause-between : goal.returns-clause-between
returns-clause-between c =
    λ j f l. bits_between c.args.first c.args.last j f l c.requires.within
