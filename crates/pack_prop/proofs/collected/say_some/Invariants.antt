use Rattle.std.proofs.Common.{◌≡◌, ◌≤◌, ◌-◌, false, length, take}
use Rattle.ground_form.specs.Meaning.{clause_vars}
use Rattle.rule_law.specs.Reasons.{has_number}
use Rattle.pack_prop.proofs.collected.say_some.Given as goal

abbrev pub invariant-loop-k : goal.invariant-loop-k
invariant-loop-k l = record {
  upto : l.k ≤ length l.literals.items;
  none : has_number l.y (clause_vars (take l.k l.literals.items)) ≡ false;
  same : l.literals.items ≡ l.initial.literals.items;
}

abbrev pub decreases-loop-k : goal.decreases-loop-k
decreases-loop-k l = length l.literals.items - l.k
