use Rattle.std.proofs.Common.{◌≡◌, ◌-◌, drop}
use Rattle.log_form.specs.Parts.{clause_parts}
use Rattle.log_form.proofs.bounds.behind.Given as goal

-- with what is left it is that of all
abbrev pub invariant-loop-l : goal.invariant-loop-l
invariant-loop-l l = l.left - clause_parts (drop l.l-index l.l-items) ≡ l.parts - clause_parts l.c
