use Rattle.std.proofs.Common.{◌≡◌, ℕ, ◌+◌, ℤ, pos, List, ◌∷◌, get_or, drop, sym, ap, ◌∙◌, subst, Bor}
use Rattle.std.proofs.lemmas.List.{drop_more}
use Rattle.packed_rows.proofs.PlanLaws.{CountSame, same_both, same_without}
use Rattle.packed_rows.proofs.plan.counts_same.Goals.{in-Some, in-None+else-may_be_there}
use Rattle.packed_rows.proofs.plan.counts_same.Goals as goal

pub loop-item-preserved : goal.loop-item-preserved
loop-item-preserved c =
    let item = get_or c.args.items.now c.loop-item.item-index (0, pos 0) in
    let after = drop (c.loop-item.item-index + 1) c.args.items.now in
    let bin = c.args.row.now.bin in
    let left : drop c.loop-item.item-index c.args.items.now ≡ item ∷ after = drop_more c.args.items.now c.loop-item.item-index (0, pos 0) c.loop-item-test.true in
    record {
      whole = λ h. c.loop-item.invariant.whole (subst (λ (z : List (ℕ × ℤ)). CountSame c.args.boxes.now bin z c.loop-item.rest.now) (sym left) (elim c.match-behind.branch [
        | in-Some w ↦
            same_both c.args.boxes.now bin after c.loop-item.rest.now c.match-behind.rest.now item
            (w.in-Some.ensures ∙ ap (λ (b : Bor (List (ℕ × ℤ))). item ∷ b.now) (sym w.rest-is)) h
        | in-None+else-may_be_there w ↦
            same_without c.args.boxes.now bin after c.loop-item.rest.now item (c.requires c.loop-item.item-index (0, pos 0) c.loop-item-test.true)
            (sym w.if-may_be_there.ensures) (subst (λ (b : Bor (List (ℕ × ℤ))). CountSame c.args.boxes.now bin after b.now) w.rest-is h)
      ]));
    }
