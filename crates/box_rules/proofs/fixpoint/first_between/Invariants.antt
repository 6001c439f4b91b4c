use Rattle.std.proofs.Common.{◌≡◌, ◌+ℤ◌, ◌-ℤ◌, ◌≤ℤ◌, pos, unsigned_abs}
use Rattle.box_rules.specs.Refuted.{width}
use Rattle.box_rules.specs.Quiet.{values_from, none_refutes}
use Rattle.box_rules.proofs.fixpoint.first_between.Given as goal

abbrev pub invariant-loop-last : goal.invariant-loop-last
invariant-loop-last l = record {
  value : none_refutes l.con l.boxes l.x (values_from (unsigned_abs (l.last.value -ℤ l.at.value)) (l.at.value +ℤ pos 1))
      ≡ none_refutes l.con l.boxes l.x (values_from (width l.fn.first.value l.last.value) l.fn.first.value);
  begun : l.fn.first.value ≤ℤ l.at.value;
  order : l.at.value ≤ℤ l.last.value;
}

abbrev pub decreases-loop-last : goal.decreases-loop-last
decreases-loop-last l = unsigned_abs (l.last.value -ℤ l.at.value)
