use Rattle.std.proofs.Common.{◌≡◌, drop}
use Rattle.box_rules.specs.Quiet.{values_of, none_refutes}
use Rattle.box_rules.proofs.fixpoint.first_in_ranges.Given as goal

abbrev pub invariant-loop-r : goal.invariant-loop-r
invariant-loop-r l = none_refutes l.con l.boxes l.x (values_of (drop l.r-index l.ranges)) ≡ none_refutes l.con l.boxes l.x (values_of l.ranges)
