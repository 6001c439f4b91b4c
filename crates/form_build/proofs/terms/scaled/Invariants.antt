use Rattle.std.proofs.Common.{◌≡◌, ◌++◌, drop}
use Rattle.form_build.specs.Merged.{scaled}
use Rattle.form_build.proofs.terms.scaled.Given as goal

abbrev pub invariant-loop-t : goal.invariant-loop-t
invariant-loop-t l = l.out.items ++ scaled l.c (drop l.t-index l.terms) ≡ scaled l.c l.terms
