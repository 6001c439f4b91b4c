use Rattle.std.proofs.Common.{◌≡◌, drop}
use Rattle.ground_form.specs.Meaning.{rooms_hold}
use Rattle.ground_form.proofs.truth.all_fit.Given as goal

abbrev pub invariant-loop-i : goal.invariant-loop-i
invariant-loop-i l = rooms_hold l.items (drop l.i-index l.items) l.values ≡ rooms_hold l.items l.items l.values
