use Rattle.object_alloc.proofs.ChangeLaws.{own_changes, none_failed}
use Rattle.object_alloc.proofs.changes.own_values_are_no_changes.Goals as goal

pub returns-clause-changes : goal.returns-clause-changes
returns-clause-changes c = own_changes c.args.objects.now c.args.config.now

pub returns-clause-allowed : goal.returns-clause-allowed
returns-clause-allowed c = none_failed c.args.objects.now c.args.config.now
