use Rattle.std.proofs.Common.{ap, ◌∙◌}
use Rattle.signed_clause.specs.Clauses.{Literals, clause_from}
use Rattle.rule_law.specs.CutTo.{cut_to}
use Rattle.rule_law.proofs.CutToLaws.{cut_tested}
use Rattle.rule_law.proofs.narrow.cut_to.Goals as goal

pub unreachable-requires : goal.unreachable-requires
unreachable-requires c =
    let is = c.in_ok-cut_literals.ensures ∙ ap (λ (z : Literals). cut_to c.args.domains.now z)
    c.literals-2.ensures.items in
    let no = c.in-Err.ensures.variant.1 (ap (λ (z : Literals). clause_from 0 z) is
    ∙ cut_tested 0 _ _ c.literals-2.ensures.form) in
    absurd cc
