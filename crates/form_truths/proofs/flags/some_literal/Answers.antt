use Rattle.std.proofs.Common.{ℕ, List, Bool, not, ◌≡◌, ap, ◌∙◌}
use Rattle.signed_clause.specs.Clauses.{clause_true}
use Rattle.ground_form.specs.Meaning.{parts_true}
use Rattle.form_build.proofs.Growth.{world_before, defines_more}
use Rattle.form_truths.proofs.PartLaws.{not_not}
use Rattle.form_truths.proofs.flags.some_literal.Goals as goal

pub returns-clause-value : goal.returns-clause-value
returns-clause-value c a w =
    let parts : parts_true c.as_slice.result.now a ≡ not (clause_true c.args.literals.now a) =
    ap (λ (z : List (ℕ × Bool)). parts_true z a) c.as_slice.ensures.value
    ∙ c.in_ok-parts.ensures.parts.value a (world_before c.parts_of.new.m c.all_of.new.self a c.in_ok-none.ensures.adds.grows w) in
    c.is_nought.ensures.value a (parts_true c.as_slice.result.now a) (c.in_ok-none.ensures.flag.value a w)
    ∙ ap not parts ∙ not_not (clause_true c.args.literals.now a)

pub returns-clause-adds : goal.returns-clause-adds
returns-clause-adds c = defines_more c.args.m.now c.parts_of.new.m c.all_of.new.self c.in_ok-parts.ensures.adds c.in_ok-none.ensures.adds
