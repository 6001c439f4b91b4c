use Rattle.std.proofs.Common.{ℕ, All, Contains, refl, subst}
use Rattle.std.proofs.lemmas.List.{take_all}
use Rattle.std.proofs.lemmas.List.Elements.{All-more}
use Rattle.stated_pairs.proofs.differing.is_apart_from.Goals as goal

pub loop-v-preserved : goal.loop-v-preserved
loop-v-preserved c =
    All-more (λ (v : ℕ). Contains c.args.pairs.now (c.args.u, v)) c.args.others.now c.loop-v.v-index 0 c.loop-v-test.true c.loop-v.invariant
    (c.if-not-is_pair.ensures refl)

pub returns : goal.returns
returns c h = subst (All (λ (v : ℕ). Contains c.args.pairs.now (c.args.u, v))) (take_all c.loop-v.v-index c.args.others.now c.loop-v-test.false) c.loop-v.invariant
