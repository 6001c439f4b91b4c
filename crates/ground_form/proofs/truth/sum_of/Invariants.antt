use Rattle.std.proofs.Common.{◌≡◌, ◌+◌, ◌≤◌, ◌+ℤ◌, drop, unsigned_abs}
use Rattle.ground_form.specs.Meaning.{sum_at}
use Rattle.ground_form.specs.Bounds.{weight_of, singles}
use Rattle.ground_form.proofs.truth.sum_of.Given as goal

abbrev pub invariant-loop-t : goal.invariant-loop-t
invariant-loop-t l = record {
  value : l.sum.value +ℤ sum_at (drop l.t-index l.terms) l.values ≡ sum_at l.terms l.values;
  fits : unsigned_abs l.sum.value + weight_of (drop l.t-index l.terms) (singles l.values) ≤ weight_of l.terms (singles l.values);
}
