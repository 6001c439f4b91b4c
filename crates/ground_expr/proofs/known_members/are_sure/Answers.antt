use Rattle.std.proofs.Common.{◌≡◌, true, refl, subst}
use Rattle.std.specs.List.{All}
use Rattle.std.proofs.lemmas.List.{take_all}
use Rattle.std.proofs.lemmas.List.Elements.{All-more}
use Rattle.form_build.specs.declared.form.Truth.TheVariants as truth
use Rattle.expr_forms.specs.declared.form.Member.{Member}
use Rattle.ground_expr.proofs.known_members.are_sure.Goals as goal

pub loop-m-preserved : goal.loop-m-preserved
loop-m-preserved c =
    All-more (λ (m : Member). m.is ≡ truth.Fixed true) c.args.members.now c.loop-m.m-index c.m-item.result c.loop-m-test.true c.loop-m.invariant
    (subst (λ (m : Member). m.is ≡ truth.Fixed true) c.m-item.is (c.if-not-is_sure.ensures refl))

pub returns : goal.returns
returns c h = subst (All (λ (m : Member). m.is ≡ truth.Fixed true)) (take_all c.loop-m.m-index c.args.members.now c.loop-m-test.false) c.loop-m.invariant
