use Rattle.std.proofs.Common.{◌≡◌, drop}
use Rattle.ground_form.specs.Meaning.{parts_true}
use Rattle.ground_form.proofs.truth.parts_hold.Given as goal

abbrev pub invariant-loop-p : goal.invariant-loop-p
invariant-loop-p l = parts_true (drop l.p-index l.parts) l.values ≡ parts_true l.parts l.values
