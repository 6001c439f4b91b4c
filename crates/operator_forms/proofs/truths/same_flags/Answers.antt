use Rattle.std.proofs.Common.{Bool, ap, ◌∙◌}
use Rattle.ground_form.specs.Meaning.{value_of}
use Rattle.form_build.specs.Forms.{truth_at}
use Rattle.form_build.proofs.Growth.{world_before, defines_more}
use Rattle.form_truths.specs.Tests.{wanted}
use Rattle.operator_forms.proofs.Joining.{flags_same}
use Rattle.operator_forms.proofs.truths.same_flags.Goals as goal

pub returns-clause-value : goal.returns-clause-value
returns-clause-value c a w =
    let two = world_before c.flag_of-2.new.m c.same_truth.new.m a c.in_ok-t.ensures.adds.grows w in
    let one = world_before c.flag_of.new.m c.flag_of-2.new.m a c.in_ok-y.ensures.adds.grows two in
    c.in_ok-t.ensures.value a w
    ∙ ap (λ (b : Bool). wanted c.args.want b)
    (flags_same (truth_at c.args.p.now a) (truth_at c.args.q.now a) (value_of a c.in_ok-x.x) (value_of a c.in_ok-y.y) (c.in_ok-x.ensures.flag.value a one) (c.in_ok-y.ensures.flag.value a two))

pub returns-clause-adds : goal.returns-clause-adds
returns-clause-adds c =
    defines_more c.args.maker.now c.flag_of-2.new.m c.same_truth.new.m
    (defines_more c.args.maker.now c.flag_of.new.m c.flag_of-2.new.m c.in_ok-x.ensures.adds c.in_ok-y.ensures.adds) c.in_ok-t.ensures.adds
