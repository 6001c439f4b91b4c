use Rattle.std.proofs.Common.{◌≡◌, ◌+◌, ◌*◌, ◌/◌, ◌%◌, arith, sym, ap, ◌∙◌}
use Rattle.std.proofs.lemmas.Nat.{div-add-mod'}
use Rattle.ground_form.proofs.VarsAt.{item_at, no_item}
use Rattle.ground_form.proofs.variables.nth_item.Goals as goal

pub returns-then-i-items : goal.returns-then-i-items
returns-then-i-items c = let past = c.if-i-items.true in sym (no_item c.args.items.now c.args.i (c.args.i / 3) (c.args.i % 3) (sym (div-add-mod' c.args.i 3)) (grind arith))

pub returns-in-0 : goal.returns-in-0
returns-in-0 c =
    let is : c.args.i % 3 ≡ 0 = grind arith in
    let there = c.if-i-items.false in
    sym (item_at c.args.items.now c.args.i (c.args.i / 3) 0 (0, 0, 0) (sym (div-add-mod' c.args.i 3) ∙ ap (λ r. c.args.i / 3 * 3 + r) is) (omega arith) (grind arith))

pub returns-in-1 : goal.returns-in-1
returns-in-1 c =
    let is : c.args.i % 3 ≡ 1 = grind arith in
    let there = c.if-i-items.false in
    sym (item_at c.args.items.now c.args.i (c.args.i / 3) 1 (0, 0, 0) (sym (div-add-mod' c.args.i 3) ∙ ap (λ r. c.args.i / 3 * 3 + r) is) (omega arith) (grind arith))

pub returns-in_default : goal.returns-in_default
returns-in_default c =
    let is : c.args.i % 3 ≡ 2 = let not = c.in_default in grind arith in
    let there = c.if-i-items.false in
    sym (item_at c.args.items.now c.args.i (c.args.i / 3) 2 (0, 0, 0) (sym (div-add-mod' c.args.i 3) ∙ ap (λ r. c.args.i / 3 * 3 + r) is) (omega arith) (grind arith))
