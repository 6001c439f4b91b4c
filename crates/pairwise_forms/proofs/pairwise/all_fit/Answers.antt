use Rattle.std.proofs.Common.{List, not, sym, ap, ◌∙◌, subst}
use Rattle.form_build.specs.Forms.{truth_at}
use Rattle.form_build.proofs.Growth.{world_before, defines_more}
use Rattle.pairwise_forms.specs.declared.members.Packed.{Packed}
use Rattle.pairwise_forms.specs.Packing.{some_overfull, AreNarrow}
use Rattle.pairwise_forms.proofs.LoadSteps.{narrow_items}
use Rattle.pairwise_forms.proofs.LoadLaws.{packed_is}
use Rattle.pairwise_forms.proofs.pairwise.all_fit.Goals as goal

pub none_overfull-requires-clause-narrow : goal.none_overfull-requires-clause-narrow
none_overfull-requires-clause-narrow c =
    subst (AreNarrow c.packed.new.maker.domains) (sym c.deref.ensures.value)
    (narrow_items c.args.maker.now c.packed.new.maker c.args.parts.now c.in_ok-items.items.items c.in_ok-items.ensures.adds.grows c.requires.sizes c.in_ok-items.ensures.items)

pub returns-clause-value : goal.returns-clause-value
returns-clause-value c a w =
    let before = world_before c.packed.new.maker c.none_overfull.new.maker a c.in_ok-t.ensures.adds.grows w in
    packed_is c.args.maker.now.domains c.args.parts.now c.in_ok-items.items.items a (truth_at c.in_ok-t.t a) c.requires.alike (c.in_ok-items.ensures.items.seen a before)
    (c.in_ok-t.ensures.value a w ∙ ap (λ (es : List Packed). not (some_overfull es a)) c.deref.ensures.value)

pub returns-clause-adds : goal.returns-clause-adds
returns-clause-adds c = defines_more c.args.maker.now c.packed.new.maker c.none_overfull.new.maker c.in_ok-items.ensures.adds c.in_ok-t.ensures.adds
