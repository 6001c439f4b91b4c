use Rattle.std.proofs.Common.{ℕ, List, All, sym, subst}
use Rattle.stated_pairs.specs.Apart.{IsApart}
use Rattle.stated_pairs.proofs.reading.pairs_stated.Goals as goal

pub loop-p-preserved : goal.loop-p-preserved
loop-p-preserved c =
    let g = c.args.maker.now in
    let all = subst (λ (z : List (ℕ × ℕ)). All (IsApart g) z) (sym c.as_slice-p-items.ensures.value) (c.sorted-all.ensures g c.in_ok-read.ensures) in
    c.in_ok-push_new.ensures g (all c.loop-p.p-index (0, 0) c.loop-p-test.true) c.loop-p.invariant
