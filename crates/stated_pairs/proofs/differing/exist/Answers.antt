use Rattle.std.proofs.Common.{ℕ, ◌<◌, All, length, ap, subst, arith}
use Rattle.std.proofs.lemmas.List.{take_all}
use Rattle.std.proofs.lemmas.List.Elements.{All-more}
use Rattle.stated_pairs.proofs.differing.exist.Goals as goal

pub loop-x-preserved : goal.loop-x-preserved
loop-x-preserved c =
    let count = ap length c.domains-count.ensures.items in
    All-more (λ (x : ℕ). x < length c.args.maker.now.domains) c.args.vars.now c.loop-x.x-index 0 c.loop-x-test.true c.loop-x.invariant
    (omega (arith, c.if-x-count.false, count))

pub returns : goal.returns
returns c h = subst (All (λ (x : ℕ). x < length c.args.maker.now.domains)) (take_all c.loop-x.x-index c.args.vars.now c.loop-x-test.false) c.loop-x.invariant
