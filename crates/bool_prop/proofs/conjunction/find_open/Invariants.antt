use Rattle.std.proofs.Common.{◌≡◌, ◌-◌, ◌&&◌, not, drop, length}
use Rattle.ground_form.specs.Meaning.{part_vars}
use Rattle.box_rules.specs.Refuted.{some_barred, all_fixed}
use Rattle.rule_law.specs.Reasons.{has_number}
use Rattle.bool_prop.proofs.conjunction.find_open.Given as goal

abbrev pub invariant-loop-i : goal.invariant-loop-i
invariant-loop-i l = record {
  some : some_barred (drop l.i l.parts) l.boxes ≡ some_barred l.parts l.boxes;
  all : (not l.is_open && all_fixed (drop l.i l.parts) l.boxes) ≡ all_fixed l.parts l.boxes;
  flag : has_number l.flag (part_vars (drop l.i l.parts)) ≡ has_number l.flag (part_vars l.parts);
}

abbrev pub decreases-loop-i : goal.decreases-loop-i
decreases-loop-i l = length l.parts - l.i
