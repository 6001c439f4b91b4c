use Rattle.form_build.specs.Worlds.{Defines}
use Rattle.stated_cases.proofs.tables.tabulate_stated.Given as goal

abbrev pub invariant-loop-at : goal.invariant-loop-at
invariant-loop-at l = Defines l.fn.maker l.maker
