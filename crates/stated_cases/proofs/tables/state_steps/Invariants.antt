use Rattle.form_build.specs.Worlds.{Defines}
use Rattle.stated_cases.proofs.tables.state_steps.Given as goal

abbrev pub invariant-loop-k : goal.invariant-loop-k
invariant-loop-k l = Defines l.fn.maker l.maker
