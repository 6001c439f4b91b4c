use Rattle.form_build.specs.Worlds.{Defines}
use Rattle.goal_rows.proofs.totals.add_totals.Given as goal

abbrev pub invariant-loop-group : goal.invariant-loop-group
invariant-loop-group l = Defines l.fn.maker l.maker
