use Rattle.std.proofs.Common.{◌≡◌, ◌++◌, ◌-◌, drop, length}
use Rattle.log_form.specs.Acceptance.{with_literal}
use Rattle.log_form.proofs.bounds.literals_with.Given as goal

abbrev pub invariant-loop-k : goal.invariant-loop-k
invariant-loop-k l = l.out.items ++ with_literal l.x l.set (drop l.k l.literals) ≡ with_literal l.x l.set l.literals

abbrev pub decreases-loop-k : goal.decreases-loop-k
decreases-loop-k l = length l.literals - l.k
