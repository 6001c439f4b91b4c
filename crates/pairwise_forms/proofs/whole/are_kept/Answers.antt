use Rattle.std.proofs.Common.{◌≡◌, true, refl, subst}
use Rattle.std.specs.List.{All}
use Rattle.std.proofs.lemmas.List.{take_all}
use Rattle.std.proofs.lemmas.List.Elements.{All-more}
use Rattle.form_build.specs.declared.form.Truth.TheVariants as truth
use Rattle.pairwise_forms.specs.declared.members.Keyed.{Keyed}
use Rattle.pairwise_forms.proofs.whole.are_kept.Goals as goal

pub loop-e-preserved : goal.loop-e-preserved
loop-e-preserved c =
    All-more (λ (e : Keyed). e.kept ≡ truth.Fixed true) c.args.members.now c.loop-e.e-index c.e-item.result c.loop-e-test.true c.loop-e.invariant
    (subst (λ (e : Keyed). e.kept ≡ truth.Fixed true) c.e-item.is (c.if-not-is_sure.ensures.sure refl))

pub returns-clause-kept : goal.returns-clause-kept
returns-clause-kept c h = subst (All (λ (e : Keyed). e.kept ≡ truth.Fixed true)) (take_all c.loop-e.e-index c.args.members.now c.loop-e-test.false) c.loop-e.invariant
