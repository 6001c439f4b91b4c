use Rattle.std.proofs.Common.{◌≡◌, ◌-◌, drop, length}
use Rattle.bool_prop.specs.Findings.{open_rest}
use Rattle.bool_prop.proofs.conjunction.first_open.Given as goal

abbrev pub invariant-loop-i : goal.invariant-loop-i
invariant-loop-i l = open_rest (drop l.i l.parts) l.boxes ≡ open_rest (drop l.fn.from l.parts) l.boxes

abbrev pub decreases-loop-i : goal.decreases-loop-i
decreases-loop-i l = length l.parts - l.i
