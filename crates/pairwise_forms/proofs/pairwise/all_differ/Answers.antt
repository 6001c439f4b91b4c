use Rattle.std.proofs.Common.{List, not, ap, ◌∙◌}
use Rattle.form_build.specs.Forms.{truth_at}
use Rattle.form_build.proofs.Growth.{world_before, defines_more}
use Rattle.pairwise_forms.specs.declared.members.Keyed.{Keyed}
use Rattle.pairwise_forms.specs.Clashing.{some_clash}
use Rattle.pairwise_forms.proofs.ClashLaws.{different_is}
use Rattle.pairwise_forms.proofs.pairwise.all_differ.Goals as goal

pub returns-clause-value : goal.returns-clause-value
returns-clause-value c a w =
    let before = world_before c.keyed.new.maker c.no_clash.new.maker a c.in_ok-t.ensures.adds.grows w in
    different_is c.args.maker.now.domains c.args.parts.now c.in_ok-members.members.items a (truth_at c.in_ok-t.t a) c.requires.alike (c.in_ok-members.ensures.keyed.seen a before)
    (c.in_ok-t.ensures.value a w ∙ ap (λ (es : List Keyed). not (some_clash es a)) c.deref.ensures.value)

pub returns-clause-adds : goal.returns-clause-adds
returns-clause-adds c = defines_more c.args.maker.now c.keyed.new.maker c.no_clash.new.maker c.in_ok-members.ensures.adds c.in_ok-t.ensures.adds
