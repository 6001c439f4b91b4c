use Rattle.ground_expr.proofs.AskedLaws.{satisfied_is}
use Rattle.ground_model.proofs.ReadyModels.{model_ready}
use Rattle.ground_model.proofs.problem.allowed_problem.Goals as goal

pub problem-requires : goal.problem-requires
problem-requires c = record { ready = model_ready c.args.objects.now c.args.model.now.constraints c.args.model.now.goals c.requires.typed c.requires.narrow }

pub returns-in_err-g-clause-asks : goal.returns-in_err-g-clause-asks
returns-in_err-g-clause-asks c = satisfied_is c.args.objects.now c.args.model.now.constraints

pub returns-then-not-has_at_most-clause-asks : goal.returns-then-not-has_at_most-clause-asks
returns-then-not-has_at_most-clause-asks c = satisfied_is c.args.objects.now c.args.model.now.constraints

pub returns-clause-asks : goal.returns-clause-asks
returns-clause-asks c = satisfied_is c.args.objects.now c.args.model.now.constraints
