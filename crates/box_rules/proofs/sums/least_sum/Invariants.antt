use Rattle.std.proofs.Common.{◌≡◌, ◌+◌, ◌≤◌, ◌+ℤ◌, drop, unsigned_abs}
use Rattle.ground_form.specs.Bounds.{least_sum, weight_of}
use Rattle.box_rules.proofs.sums.least_sum.Given as goal

abbrev pub invariant-loop-t : goal.invariant-loop-t
invariant-loop-t g l = record {
  value : l.sum.value +ℤ least_sum (drop l.t-index l.terms) (g.V.View.boxes l.view) ≡ least_sum l.terms (g.V.View.boxes l.view);
  fits : unsigned_abs l.sum.value + weight_of (drop l.t-index l.terms) (g.V.View.outer l.view) ≤ weight_of l.terms (g.V.View.outer l.view);
}
