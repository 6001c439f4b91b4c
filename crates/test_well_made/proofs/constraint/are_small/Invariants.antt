use Rattle.std.proofs.Common.{pos, ◌≤ℤ◌, ◌^◌, drop, All}
use Rattle.signed_clause.specs.Clauses.{box_of}
use Rattle.ground_form.specs.Bounds.{LiesWithin, low_of, size_sum}
use Rattle.test_well_made.proofs.constraint.are_small.Given as goal

abbrev pub invariant-loop-i : goal.invariant-loop-i
invariant-loop-i l = record {
  places : All (λ i. LiesWithin (pos 0) (pos 9999) (box_of l.domains i.0)) (drop l.i-index l.items) → All (λ i. LiesWithin (pos 0) (pos 9999) (box_of l.domains i.0)) l.items;
  sizes : All (λ i. pos 0 ≤ℤ low_of (box_of l.domains i.1)) (drop l.i-index l.items) → All (λ i. pos 0 ≤ℤ low_of (box_of l.domains i.1)) l.items;
  total : size_sum (drop l.i-index l.items) l.domains ≤ℤ pos l.left → size_sum l.items l.domains ≤ℤ pos (2 ^ 60);
}
