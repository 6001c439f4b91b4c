use Rattle.std.proofs.Common.{◌≡◌, ℕ, true, drop}
use Rattle.ground_form.specs.Meaning.{vars_of}
use Rattle.rule_law.specs.Repeats.{ascends}
use Rattle.rule_law.proofs.repeats.end_of_rise.Given as goal

abbrev pub invariant-loop-i : goal.invariant-loop-i
invariant-loop-i l = (top : ℕ) → ascends l.low top (drop l.i (vars_of l.con)) ≡ true → ascends 0 top (drop l.fn.from (vars_of l.con)) ≡ true
