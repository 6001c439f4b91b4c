use Rattle.view_breaks.proofs.FirstLaws.{none_broken, satisfied_none, first_named}
use Rattle.view_breaks.proofs.laws.first_break_is_named.Goals as goal

pub returns-clause-none : goal.returns-clause-none
returns-clause-none c = none_broken c.args.objects.now c.args.config.now c.args.model.now.constraints c.requires.sets

pub returns-clause-satisfied : goal.returns-clause-satisfied
returns-clause-satisfied c = satisfied_none c.args.objects.now c.args.config.now c.args.model.now.constraints c.requires.sets

pub returns-clause-first : goal.returns-clause-first
returns-clause-first c = first_named c.args.objects.now c.args.config.now c.args.model.now.constraints c.requires.sets
