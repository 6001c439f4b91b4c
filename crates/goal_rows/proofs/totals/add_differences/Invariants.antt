use Rattle.form_build.specs.Worlds.{Defines}
use Rattle.goal_rows.proofs.totals.add_differences.Given as goal

abbrev pub invariant-loop-c : goal.invariant-loop-c
invariant-loop-c l = Defines l.fn.maker l.maker
