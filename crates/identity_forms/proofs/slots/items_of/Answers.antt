use Rattle.std.proofs.Common.{◌∙◌, ℕ, ℤ, Option, pos, get_or, ap}
use Rattle.std.specs.Option.{unwrap_or}
use Rattle.identity_forms.proofs.SlotLaws.{items_step}
use Rattle.identity_forms.proofs.slots.items_of.Goals as goal

pub loop-pair-preserved : goal.loop-pair-preserved
loop-pair-preserved c =
    let p : ℤ × ℕ = get_or c.args.pairs.now c.loop-pair.pair-index (pos 0, 0) in
    items_step c.args.cells.now c.args.pairs.now c.loop-pair.pair-index (pos 0, 0) c.item_of.result c.loop-pair.items.items c.push.new.self.items c.loop-pair-test.true c.in_ok-push.ensures.items (c.item_of.ensures ∙ ap (λ (o : Option ℕ). (p.0, unwrap_or o 0)) (c.in_ok-noted.ensures p.1)) c.loop-pair.invariant
