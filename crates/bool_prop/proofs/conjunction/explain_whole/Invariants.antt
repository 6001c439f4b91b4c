use Rattle.std.proofs.Common.{◌≡◌, ◌++◌, ◌∷◌, [], pos, drop}
use Rattle.rule_law.specs.Plans.{literals_of}
use Rattle.bool_prop.specs.Findings.{whole_plan}
use Rattle.bool_prop.proofs.conjunction.explain_whole.Given as goal

abbrev pub invariant-loop-p : goal.invariant-loop-p
invariant-loop-p l =
    l.literals.items ++ literals_of l.subject.domains.now (whole_plan (drop l.p-index l.parts)) ≡ literals_of l.subject.domains.now ((l.flag, (pos 0, pos 0) ∷ []) ∷ whole_plan l.parts)
