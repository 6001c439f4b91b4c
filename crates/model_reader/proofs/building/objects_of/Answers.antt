use Rattle.std.proofs.Common.{◌∙◌, subst}
use Rattle.object_alloc.specs.Limits.{IsWithinLimits}
use Rattle.model_reader.proofs.ModelParts.{ready, within}
use Rattle.model_reader.proofs.building.objects_of.Goals as goal

pub returns-clause-ready : goal.returns-clause-ready
returns-clause-ready c =
    ready c.args.table.now c.in_ok-objects.objects c.args.model.now.constraints c.args.model.now.goals c.in_ok-objects.ensures.objects c.requires.typed c.in_default.ensures.within c.requires.few

pub returns-clause-within : goal.returns-clause-within
returns-clause-within c =
    λ p made. within p c.args.table.now c.in_ok-objects.objects c.args.model.now.constraints c.args.model.now.goals c.in_ok-objects.ensures.objects made c.in_ok-objects.ensures.limits c.in_default.ensures.within

pub returns-in-Err-clause-refused : goal.returns-in-Err-clause-refused
returns-in-Err-clause-refused c =
    λ p made. c.in-Err.ensures.refused p (c.in_ok-objects.ensures.objects ∙ made.table_is) made.constraints_are made.goals_are made.typed (subst IsWithinLimits made.table_is c.in_ok-objects.ensures.limits)
