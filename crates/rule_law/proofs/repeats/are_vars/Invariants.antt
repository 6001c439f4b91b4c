use Rattle.std.proofs.Common.{◌≡◌, drop}
use Rattle.ground_form.specs.Meaning.{vars_of}
use Rattle.rule_law.proofs.repeats.are_vars.Given as goal

abbrev pub invariant-loop-i : goal.invariant-loop-i
invariant-loop-i l = drop l.i l.vars ≡ drop l.i (vars_of l.con) → l.vars ≡ vars_of l.con
