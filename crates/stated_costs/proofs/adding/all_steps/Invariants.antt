use Rattle.form_build.specs.Worlds.{Defines}
use Rattle.stated_costs.proofs.adding.all_steps.Given as goal

abbrev pub invariant-loop-g : goal.invariant-loop-g
invariant-loop-g l = Defines l.fn.maker l.maker
