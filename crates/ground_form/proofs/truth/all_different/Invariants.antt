use Rattle.std.proofs.Common.{◌≡◌, drop}
use Rattle.ground_form.specs.Meaning.{all_differ}
use Rattle.ground_form.proofs.truth.all_different.Given as goal

abbrev pub invariant-loop-k : goal.invariant-loop-k
invariant-loop-k l = all_differ (drop l.k l.vars) l.values ≡ all_differ l.vars l.values
