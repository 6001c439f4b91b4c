use Rattle.std.proofs.Common.{refl}
use Rattle.stated_pairs.proofs.PairLaws.{from_start, from_next, from_end}
use Rattle.stated_pairs.proofs.differing.are_apart.Goals as goal

pub loop-i-init : goal.loop-i-init
loop-i-init c = from_start c.args.pairs.now c.args.vars.now

pub loop-i-preserved : goal.loop-i-preserved
loop-i-preserved c =
    from_next c.args.pairs.now c.args.vars.now c.loop-i.i c.loop-i-test.true (c.if-not-is_apart_from.ensures refl) c.loop-i.invariant

pub returns : goal.returns
returns c h = from_end c.args.pairs.now c.args.vars.now c.loop-i.i c.loop-i-test.false c.loop-i.invariant
