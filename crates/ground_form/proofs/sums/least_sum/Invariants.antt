use Rattle.std.proofs.Common.{◌≡◌, ◌+◌, ◌≤◌, ◌+ℤ◌, drop, unsigned_abs}
use Rattle.ground_form.specs.Bounds.{least_sum, weight_of}
use Rattle.ground_form.proofs.sums.least_sum.Given as goal

abbrev pub invariant-loop-t : goal.invariant-loop-t
invariant-loop-t l = record {
  value : l.sum.value +ℤ least_sum (drop l.t-index l.terms) l.boxes ≡ least_sum l.terms l.boxes;
  fits : unsigned_abs l.sum.value + weight_of (drop l.t-index l.terms) l.boxes ≤ weight_of l.terms l.boxes;
}
