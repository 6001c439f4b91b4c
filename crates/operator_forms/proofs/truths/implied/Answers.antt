use Rattle.std.proofs.Common.{Bool, not, ◌||◌, ap, ◌∙◌}
use Rattle.form_build.specs.declared.form.Truth.{Truth}
use Rattle.form_build.specs.Forms.{truth_at}
use Rattle.form_build.proofs.Growth.{world_before}
use Rattle.operator_forms.proofs.truths.implied.Goals as goal

pub returns-clause-value : goal.returns-clause-value
returns-clause-value c a w =
    let before = world_before c.args.maker.now c.some_of.new.maker a c.in_ok-t.ensures.adds.grows w in
    c.in_ok-t.ensures.value a w
    ∙ ap (λ (b : Bool). b || truth_at c.in_ok-then.then a) (c.in_ok-not_p.ensures.value a before)
    ∙ ap (λ (z : Truth). not (truth_at c.args.p.now a) || truth_at z a) c.in_ok-then.ensures
