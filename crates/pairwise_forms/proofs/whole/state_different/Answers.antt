use Rattle.std.proofs.Common.{◌≡◌, List, true, true≢false, not, length, ap, sym, subst, arith, ◌∙◌}
use Rattle.std.specs.List.{All}
use Rattle.form_build.specs.declared.form.Truth.TheVariants as truth
use Rattle.conf_syntax.specs.declared.tree.QuantKind.TheVariants as kind
use Rattle.conf_eval.specs.Meaning.{truth_of}
use Rattle.form_truths.proofs.Stating.{defined_says}
use Rattle.quantifier_forms.specs.PartValues.{kept_values, over_values}
use Rattle.pairwise_forms.specs.declared.members.Keyed.{Keyed}
use Rattle.pairwise_forms.specs.Clashing.{some_clash}
use Rattle.pairwise_forms.proofs.ClashLaws.{different_said}
use Rattle.pairwise_forms.proofs.HasWholes.{kept_members, member_count, different_whole}
use Rattle.pairwise_forms.proofs.whole.state_different.Goals as goal

pub returns-then-are_kept : goal.returns-then-are_kept
returns-then-are_kept c = record {
  says = defined_says c.args.maker.now c.keyed.new.maker c.require_different.new.maker (λ a. not (some_clash c.deref-then-are_kept.result.now a)) (λ a. truth_of (over_values kind.AllDifferent (kept_values c.args.parts.now a)))
      c.in_ok-members.ensures.adds c.in_ok-require_different.ensures.says
      (λ a w. ap (λ (es : List Keyed). not (some_clash es a)) c.deref-then-are_kept.ensures.value
      ∙ different_said c.args.maker.now.domains c.args.parts.now c.in_ok-members.members.items a c.requires.alike (c.in_ok-members.ensures.keyed.seen a w));
  whole = λ kept few.
      let same = ap length c.deref-then-are_kept.ensures.value in
      let many = member_count c.keyed.new.maker c.args.parts.now c.in_ok-members.members.items c.in_ok-members.ensures.keyed in
      different_whole c.keyed.new.maker c.require_different.new.maker c.args.parts.now c.in_ok-members.members.items c.deref-then-are_kept.result.now
      c.in_ok-require_different.ensures.says.grows c.in_ok-members.ensures.keyed c.deref-then-are_kept.ensures.value kept
      (c.in_ok-require_different.ensures.stands (omega (arith, few, same, many)));
}

pub returns : goal.returns
returns c = record {
  says = defined_says c.args.maker.now c.keyed.new.maker c.state_no_clash.new.maker (λ a. not (some_clash c.deref-2.result.now a)) (λ a. truth_of (over_values kind.AllDifferent (kept_values c.args.parts.now a)))
      c.in_ok-members.ensures.adds c.in_ok-state_no_clash.ensures.says
      (λ a w. ap (λ (es : List Keyed). not (some_clash es a)) c.deref-2.ensures.value
      ∙ different_said c.args.maker.now.domains c.args.parts.now c.in_ok-members.members.items a c.requires.alike (c.in_ok-members.ensures.keyed.seen a w));
  whole = λ kept few.
      let all = kept_members c.keyed.new.maker c.args.parts.now c.in_ok-members.members.items c.in_ok-members.ensures.keyed kept in
      let there = subst (λ (es : List Keyed). All (λ (e : Keyed). e.kept ≡ truth.Fixed true) es) (sym c.deref.ensures.value) all in
      absurd (true≢false (sym (c.are_kept.ensures.all there) ∙ c.if-are_kept.false));
}
