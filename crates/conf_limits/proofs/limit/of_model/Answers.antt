use Rattle.conf_limits.proofs.TypedLaws.{constraints_there, goals_there}
use Rattle.conf_limits.proofs.limit.of_model.Goals as goal

pub of_constraints-stated-requires : goal.of_constraints-stated-requires
of_constraints-stated-requires c = record { there = constraints_there c.args.objects.now c.count-objects.ensures.sound c.args.constraints.now c.requires.typed.constraints }

pub of_goals-wanted-requires : goal.of_goals-wanted-requires
of_goals-wanted-requires c = record { there = goals_there c.args.objects.now c.count-objects.ensures.sound c.args.goals.now c.requires.typed.goals }
