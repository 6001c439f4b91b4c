use Rattle.form_build.specs.Worlds.{Defines}
use Rattle.stated_pairs.proofs.differing.state_cliques.Given as goal

abbrev pub invariant-loop-vars : goal.invariant-loop-vars
invariant-loop-vars l = Defines l.fn.maker l.maker
