use Rattle.std.proofs.Common.{◌<◌, length}
use Rattle.form_build.specs.Worlds.{Defines}
use Rattle.stated_costs.proofs.steps.flags_of.Given as goal

abbrev pub invariant-loop-part : goal.invariant-loop-part
invariant-loop-part l = record {
  exists : l.x < length l.maker.domains;
  adds : Defines l.fn.maker l.maker;
}
