use Rattle.std.proofs.Common.{◌≡◌, ◌++◌, drop}
use Rattle.rule_law.specs.CutTo.{cut_to}
use Rattle.rule_law.proofs.narrow.cut_literals.Given as goal

abbrev pub invariant-loop-l : goal.invariant-loop-l
invariant-loop-l l = l.cut.items ++ cut_to l.domains (drop l.l-index l.literals) ≡ cut_to
    l.domains l.literals
