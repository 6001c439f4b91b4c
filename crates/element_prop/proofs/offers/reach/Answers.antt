use Rattle.std.proofs.Common.{pos, arith}
use Rattle.std.proofs.lemmas.Option.{IfSome_then}
use Rattle.element_prop.proofs.OfferLaws.{offered_at}
use Rattle.element_prop.proofs.offers.reach.Goals as goal

pub returns-then-is_some-clause-some : goal.returns-then-is_some-clause-some
returns-then-is_some-clause-some c =
    IfSome_then c.reach_of-end.result c.reach_of-end.ensures.some
    (λ end h v low high. offered_at c.args.items.now c.loop-i.i (pos 0, 0) v c.args.index.now c.args.boxes.now (omega (arith, c.loop-i-test.true, c.requires.near.within)) (h v low high))
