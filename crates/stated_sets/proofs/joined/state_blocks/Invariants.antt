use Rattle.form_build.specs.Worlds.{Defines}
use Rattle.stated_sets.proofs.joined.state_blocks.Given as goal

abbrev pub invariant-loop-l : goal.invariant-loop-l
invariant-loop-l l = Defines l.fn.maker l.maker
