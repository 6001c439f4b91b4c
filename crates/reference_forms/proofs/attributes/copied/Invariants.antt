use Rattle.std.proofs.Common.{◌≡◌, ◌++◌, drop}
use Rattle.reference_forms.proofs.attributes.copied.Given as goal

abbrev pub invariant-loop-n : goal.invariant-loop-n
invariant-loop-n l = l.copy.items ++ drop l.n-index l.numbers ≡ l.numbers
