use Rattle.form_build.specs.Forms.{truth_at}
use Rattle.form_build.proofs.Growth.{world_before}
use Rattle.operator_forms.proofs.Joining.{both_value}
use Rattle.operator_forms.proofs.truths.both_of.Goals as goal

pub returns-clause-value : goal.returns-clause-value
returns-clause-value c a w =
    let before = world_before c.args.maker.now c.some_of.new.maker a c.in_ok-missing.ensures.adds.grows w in
    both_value (truth_at c.args.p.now a) (truth_at c.args.q.now a) (truth_at c.in_ok-not_p.not_p a) (truth_at c.in_ok-not_q.not_q a) (truth_at c.in_ok-missing.missing a) (truth_at c.in_ok-t.t a)
    (c.in_ok-not_p.ensures.value a before) (c.in_ok-not_q.ensures.value a before) (c.in_ok-missing.ensures.value a w) (c.in_ok-t.ensures.value a w)
