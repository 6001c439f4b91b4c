use Rattle.form_build.specs.Worlds.{Defines}
use Rattle.stated_rows.proofs.packings.pack_groups.Given as goal

abbrev pub invariant-loop-group : goal.invariant-loop-group
invariant-loop-group l = Defines l.fn.maker l.maker
