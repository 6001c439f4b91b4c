use Rattle.form_build.specs.Forms.{linear_at, truth_at}
use Rattle.form_build.proofs.Growth.{world_before, defines_more}
use Rattle.quantifier_forms.proofs.Narrowness.{one_share}
use Rattle.quantifier_forms.proofs.ShareLaws.{counted_is}
use Rattle.quantifier_forms.proofs.shares.counted_at.Goals as goal

pub returns-clause-value : goal.returns-clause-value
returns-clause-value c a w =
    let before = world_before c.holds_at.new.maker c.sum_where.new.maker a c.in_ok-r.ensures.adds.grows w in
    counted_is c.args.p.now a (truth_at c.in_ok-t.t a) (linear_at c.number-one.result a) (linear_at c.in_ok-r.r a) (c.in_ok-t.ensures.value a before) (c.number-one.ensures.value a) (c.in_ok-r.ensures.value a w)

pub returns-clause-sum : goal.returns-clause-sum
returns-clause-sum c = one_share c.holds_at.new.maker.domains c.sum_where.new.maker.domains c.number-one.result c.in_ok-r.r (c.number-one.ensures.lies c.holds_at.new.maker.domains) c.in_ok-r.ensures.sum

pub returns-clause-adds : goal.returns-clause-adds
returns-clause-adds c = defines_more c.args.maker.now c.holds_at.new.maker c.sum_where.new.maker c.in_ok-t.ensures.adds c.in_ok-r.ensures.adds
