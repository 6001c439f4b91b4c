use Rattle.std.proofs.Common.{◌≡◌, List, true, true≢false, not, sym, ap, ◌∙◌, subst}
use Rattle.std.specs.List.{All}
use Rattle.form_build.specs.declared.form.Truth.TheVariants as truth
use Rattle.conf_syntax.specs.declared.tree.QuantKind.TheVariants as kind
use Rattle.conf_eval.specs.Meaning.{truth_of}
use Rattle.form_truths.proofs.Stating.{defined_says}
use Rattle.quantifier_forms.specs.PartValues.{kept_values, over_values}
use Rattle.pairwise_forms.specs.declared.members.Packed.{Packed}
use Rattle.pairwise_forms.specs.Packing.{some_overfull, AreNarrow}
use Rattle.pairwise_forms.proofs.LoadSteps.{item_parts, narrow_items}
use Rattle.pairwise_forms.proofs.LoadLaws.{packed_said}
use Rattle.pairwise_forms.proofs.HasWholes.{kept_items, packing_whole}
use Rattle.pairwise_forms.proofs.whole.state_pack.Goals as goal

pub packed-requires : goal.packed-requires
packed-requires c = record { parts = item_parts c.args.maker.now kind.Pack c.args.parts.now c.requires.parts c.requires.alike c.requires.sizes }

pub require_fitting-requires-clause-narrow : goal.require_fitting-requires-clause-narrow
require_fitting-requires-clause-narrow c =
    subst (AreNarrow c.packed.new.maker.domains) (sym c.deref-then-are_sure.ensures.value)
    (narrow_items c.args.maker.now c.packed.new.maker c.args.parts.now c.in_ok-items.items.items c.in_ok-items.ensures.adds.grows c.requires.sizes c.in_ok-items.ensures.items)

pub returns-then-are_sure : goal.returns-then-are_sure
returns-then-are_sure c = record {
  says = defined_says c.args.maker.now c.packed.new.maker c.require_fitting.new.maker (λ a. not (some_overfull c.deref-then-are_sure.result.now a)) (λ a. truth_of (over_values kind.Pack (kept_values c.args.parts.now a)))
      c.in_ok-items.ensures.adds c.in_ok-require_fitting.ensures.says
      (λ a w. ap (λ (es : List Packed). not (some_overfull es a)) c.deref-then-are_sure.ensures.value
      ∙ packed_said c.args.maker.now.domains c.args.parts.now c.in_ok-items.items.items a c.requires.alike (c.in_ok-items.ensures.items.seen a w));
  whole = λ kept. packing_whole c.packed.new.maker c.require_fitting.new.maker c.args.parts.now c.in_ok-items.items.items c.deref-then-are_sure.result.now
      c.in_ok-require_fitting.ensures.says.grows c.in_ok-items.ensures.items c.deref-then-are_sure.ensures.value kept c.in_ok-require_fitting.ensures.whole;
}

pub state_none_overfull-requires-clause-narrow : goal.state_none_overfull-requires-clause-narrow
state_none_overfull-requires-clause-narrow c =
    subst (AreNarrow c.packed.new.maker.domains) (sym c.deref-2.ensures.value)
    (narrow_items c.args.maker.now c.packed.new.maker c.args.parts.now c.in_ok-items.items.items c.in_ok-items.ensures.adds.grows c.requires.sizes c.in_ok-items.ensures.items)

pub returns : goal.returns
returns c = record {
  says = defined_says c.args.maker.now c.packed.new.maker c.state_none_overfull.new.maker (λ a. not (some_overfull c.deref-2.result.now a)) (λ a. truth_of (over_values kind.Pack (kept_values c.args.parts.now a)))
      c.in_ok-items.ensures.adds c.in_ok-state_none_overfull.ensures.says
      (λ a w. ap (λ (es : List Packed). not (some_overfull es a)) c.deref-2.ensures.value
      ∙ packed_said c.args.maker.now.domains c.args.parts.now c.in_ok-items.items.items a c.requires.alike (c.in_ok-items.ensures.items.seen a w));
  whole = λ kept.
      let all = kept_items c.packed.new.maker c.args.parts.now c.in_ok-items.items.items c.in_ok-items.ensures.items kept in
      let there = subst (λ (es : List Packed). All (λ (e : Packed). e.kept ≡ truth.Fixed true) es) (sym c.deref.ensures.value) all in
      absurd (true≢false (sym (c.are_sure.ensures.all there) ∙ c.if-are_sure.false));
}
