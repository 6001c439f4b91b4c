use Rattle.std.proofs.Common.{◌≡◌, ◌++◌, ◌-◌, drop, length}
use Rattle.ground_form.specs.Meaning.{vars_of}
use Rattle.rule_law.proofs.variables.all_vars.Given as goal

abbrev pub invariant-loop-x : goal.invariant-loop-x
invariant-loop-x l = l.vars.items ++ drop (length l.vars.items) (vars_of l.con) ≡ vars_of l.con

abbrev pub decreases-loop-x : goal.decreases-loop-x
decreases-loop-x l = length (vars_of l.con) - length l.vars.items
