use Rattle.std.proofs.Common.{ℤ, int_le, ap, ◌∙◌}
use Rattle.form_build.specs.Forms.{linear_at}
use Rattle.form_build.proofs.Growth.{world_before, defines_more}
use Rattle.pairwise_forms.proofs.LoadSteps.{item_kept}
use Rattle.pairwise_forms.proofs.loads.fits.Goals as goal

pub is_at_most-requires-clause-right : goal.is_at_most-requires-clause-right
is_at_most-requires-clause-right c = (item_kept c.args.maker.now c.load.new.maker c.args.e.now c.in_ok-all.ensures.adds.grows c.requires.item).room

pub returns-clause-value : goal.returns-clause-value
returns-clause-value c a w =
    let before = world_before c.load.new.maker c.is_at_most.new.maker a c.in_ok-t.ensures.adds.grows w in
    c.in_ok-t.ensures.value a w ∙ ap (λ (v : ℤ). int_le v (linear_at c.args.e.now.room a)) (c.in_ok-all.ensures.value a before)

pub returns-clause-adds : goal.returns-clause-adds
returns-clause-adds c = defines_more c.args.maker.now c.load.new.maker c.is_at_most.new.maker c.in_ok-all.ensures.adds c.in_ok-t.ensures.adds
