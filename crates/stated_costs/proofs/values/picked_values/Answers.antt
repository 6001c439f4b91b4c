use Rattle.std.proofs.Common.{◌+◌, pos, get_or, drop, subst, List, ℤ, ℕ}
use Rattle.std.proofs.lemmas.List.{drop_more}
use Rattle.stated_costs.proofs.ValueLaws.{ArePicked, pick_next}
use Rattle.stated_costs.proofs.values.picked_values.Goals as goal

pub loop-t-preserved : goal.loop-t-preserved
loop-t-preserved c =
    let ts = c.args.items.now in
    let k = c.loop-t.t-index in
    pick_next c.args.maker.now c.args.at.now ts (get_or ts k (pos 0, 0)) (drop (k + 1) ts) c.loop-t.values c.in-Some.more
    (subst (λ (z : List (ℤ × ℕ)). ArePicked c.args.maker.now c.args.at.now ts z c.loop-t.values) (drop_more ts k (pos 0, 0) c.loop-t-test.true) c.loop-t.invariant)
    (rw c.in-Some.is at c.in_ok-more.ensures.before)
    (rw c.in-Some.is at c.in_ok-more.ensures.item)
