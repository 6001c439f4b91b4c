use Rattle.std.proofs.Common.{◌+◌, pos, get_or, drop, subst, List, ℤ, ℕ}
use Rattle.std.proofs.lemmas.List.{drop_more}
use Rattle.stated_costs.proofs.SumLaws.{IsMostFrom, most_next}
use Rattle.stated_costs.proofs.sums.most_sum.Goals as goal

pub loop-t-preserved : goal.loop-t-preserved
loop-t-preserved c =
    let ts = c.args.terms.now in
    let k = c.loop-t.t-index in
    most_next c.args.maker.now c.args.x c.args.at.now ts (get_or ts k (pos 0, 0)) (drop (k + 1) ts) c.loop-t.sum.value c.in-Some.next.value
    (subst (λ (z : List (ℤ × ℕ)). IsMostFrom c.args.maker.now c.args.x c.args.at.now ts z c.loop-t.sum.value) (drop_more ts k (pos 0, 0) c.loop-t-test.true) c.loop-t.invariant)
    (rw c.in-Some.is at c.in_ok-more.ensures)
