use Rattle.std.proofs.Common.{◌≤◌, ◌^◌, drop}
use Rattle.ground_form.specs.Bounds.{weight_of}
use Rattle.test_well_made.proofs.terms.are_light.Given as goal

abbrev pub invariant-loop-t : goal.invariant-loop-t
invariant-loop-t l = weight_of (drop l.t-index l.terms) l.domains ≤ l.left → weight_of l.terms l.domains ≤ 2 ^ 59
