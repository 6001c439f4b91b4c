use Rattle.std.proofs.Common.{◌≡◌, drop}
use Rattle.rule_law.specs.CutTo.{cut_to}
use Rattle.rule_law.proofs.narrow.are_in_domains.Given as goal

abbrev pub invariant-loop-l : goal.invariant-loop-l
invariant-loop-l l = cut_to l.domains (drop l.l-index l.literals) ≡ drop l.l-index l.literals →
    cut_to l.domains l.literals ≡ l.literals
