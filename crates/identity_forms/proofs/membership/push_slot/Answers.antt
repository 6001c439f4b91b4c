use Rattle.std.proofs.Common.{◌&&◌, ◌||◌, ◌∙◌, Bool, [], ap}
use Rattle.form_build.specs.Forms.{truth_at}
use Rattle.form_build.proofs.Growth.{world_before, adds_nothing, defines_more}
use Rattle.form_truths.specs.Disjunctions.{disjunction_at}
use Rattle.identity_forms.proofs.membership.push_slot.Goals as goal

pub returns-then-is_never-clause-adds : goal.returns-then-is_never-clause-adds
returns-then-is_never-clause-adds c = adds_nothing [] c.args.maker.now

pub returns-clause-value : goal.returns-clause-value
returns-clause-value c a w =
    let before = world_before c.slot_truth.new.maker c.push_both.new.maker a c.in_ok-push_both.ensures.adds.grows w in
    c.in_ok-push_both.ensures.value a w ∙ ap (λ (b : Bool). (truth_at c.args.same.now a && b) || disjunction_at c.args.some.now a) (c.in_ok-is.ensures.value a before)

pub returns-clause-adds : goal.returns-clause-adds
returns-clause-adds c = defines_more c.args.maker.now c.slot_truth.new.maker c.push_both.new.maker c.in_ok-is.ensures.adds c.in_ok-push_both.ensures.adds
