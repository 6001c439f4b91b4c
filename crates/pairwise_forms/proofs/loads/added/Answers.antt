use Rattle.std.proofs.Common.{Bool, cond, pos, ap, ◌∙◌}
use Rattle.form_build.specs.Forms.{linear_at}
use Rattle.form_build.proofs.Growth.{world_before, defines_more}
use Rattle.pairwise_forms.proofs.LoadSteps.{added_sum, narrow_size}
use Rattle.pairwise_forms.proofs.loads.added.Goals as goal

pub sum_where-requires-clause-number : goal.sum_where-requires-clause-number
sum_where-requires-clause-number c = narrow_size c.args.maker.now c.counts.new.maker c.args.f.now.size c.in_ok-t.ensures.adds.grows c.requires.narrow

pub returns-clause-value : goal.returns-clause-value
returns-clause-value c a w =
    let before = world_before c.counts.new.maker c.sum_where.new.maker a c.in_ok-r.ensures.adds.grows w in
    c.in_ok-r.ensures.value a w
    ∙ ap (λ (b : Bool). cond b (linear_at c.args.f.now.size a) (pos 0)) (c.in_ok-t.ensures.value a before)

pub returns-clause-sum : goal.returns-clause-sum
returns-clause-sum c low high h = added_sum c.args.maker.now c.counts.new.maker c.sum_where.new.maker low high c.args.f.now.size c.in_ok-r.r c.in_ok-t.ensures.adds.grows c.in_ok-r.ensures.sum h

pub returns-clause-adds : goal.returns-clause-adds
returns-clause-adds c = defines_more c.args.maker.now c.counts.new.maker c.sum_where.new.maker c.in_ok-t.ensures.adds c.in_ok-r.ensures.adds
