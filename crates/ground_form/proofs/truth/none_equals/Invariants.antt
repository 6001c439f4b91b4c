use Rattle.std.proofs.Common.{◌≡◌, drop}
use Rattle.ground_form.specs.Meaning.{value_of, lacks}
use Rattle.ground_form.proofs.truth.none_equals.Given as goal

abbrev pub invariant-loop-x : goal.invariant-loop-x
invariant-loop-x l = lacks (value_of l.values l.of) (drop l.x-index l.vars) l.values ≡ lacks (value_of l.values l.of) l.vars l.values
