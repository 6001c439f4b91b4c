use Rattle.std.proofs.Common.{◌≡◌, ◌+◌, List, ℤ, ◌+ℤ◌, drop}
use Rattle.std.specs.Prelude.{unsigned_abs, ◌≤◌}
use Rattle.ground_form.specs.Meaning.{sum_at}
use Rattle.ground_form.specs.Bounds.{weight_of}
use Rattle.form_build.specs.Forms.{linear_at}
use Rattle.form_build.specs.Worlds.{IsInBoxes}
use Rattle.form_build.specs.Sums.{linear_weight, AreTerms}
use Rattle.block_sums.proofs.ordered.ordered_sum.Given as goal

-- with what is left it is the sum of all
abbrev pub invariant-loop-i : goal.invariant-loop-i
invariant-loop-i l =
    record {
      value : (a : List ℤ) → IsInBoxes l.b.domains a → (linear_at l.sum a +ℤ sum_at (drop l.i l.terms) a) ≡ (sum_at l.terms a +ℤ l.offset);
      terms : AreTerms l.b.domains 0 l.sum.terms;
      bounded : linear_weight l.sum l.b.domains + weight_of (drop l.i l.terms) l.b.domains ≤ weight_of l.terms l.b.domains + unsigned_abs l.offset;
    }
