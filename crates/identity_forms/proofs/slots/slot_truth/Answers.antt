use Rattle.std.proofs.Common.{◌≡◌, ◌<◌, ℕ, ℤ, List, pos, length, sym, ap, subst, ◌∙◌}
use Rattle.std.specs.List.{All}
use Rattle.std.specs.Ordering.{int_eq}
use Rattle.signed_clause.specs.Clauses.{Boxes}
use Rattle.ground_form.specs.Meaning.{value_of}
use Rattle.ground_form.specs.WellMade.{distinct_values, lacks_value}
use Rattle.form_build.specs.Worlds.{IsInBoxes}
use Rattle.form_build.proofs.Growth.{world_before}
use Rattle.identity_forms.specs.Lists.{cell_items}
use Rattle.identity_forms.proofs.SlotLaws.{items_low, items_distinct, items_lack, picked_cell, flag_test}
use Rattle.identity_forms.proofs.slots.slot_truth.Goals as goal

pub picked-requires-clause-variables : goal.picked-requires-clause-variables
picked-requires-clause-variables c =
    let items = c.deref-2.ensures.value ∙ c.in_ok-items.ensures ∙ ap (λ (z : List (ℕ × ℕ)). cell_items z c.args.pairs.now) c.deref.ensures.value in
    subst (λ (z : List (ℤ × ℕ)). All (λ (t : ℤ × ℕ). t.1 < length c.args.maker.now.domains) z) (sym items)
    (items_low (length c.args.maker.now.domains) c.args.slot.now.cells.items c.args.pairs.now c.requires.slot.exist c.requires.slot.owners.may)

pub picked-requires-clause-distinct : goal.picked-requires-clause-distinct
picked-requires-clause-distinct c =
    ap distinct_values (c.deref-2.ensures.value ∙ c.in_ok-items.ensures) ∙ items_distinct c.deref.result.now c.args.pairs.now ∙ c.requires.slot.owners.distinct

pub picked-requires-clause-held : goal.picked-requires-clause-held
picked-requires-clause-held c v h =
    ap (lacks_value v) (c.deref-2.ensures.value ∙ c.in_ok-items.ensures) ∙ items_lack c.deref.result.now v c.args.pairs.now ∙ c.requires.slot.owners.held v h

pub returns-clause-value : goal.returns-clause-value
returns-clause-value c a w =
    let items = c.deref-2.ensures.value ∙ c.in_ok-items.ensures ∙ ap (λ (z : List (ℕ × ℕ)). cell_items z c.args.pairs.now) c.deref.ensures.value in
    let before = world_before c.args.maker.now c.picked.new.maker a c.in_ok-y.ensures.adds.grows w in
    let v : ℤ = value_of a c.args.x in
    let y : ℕ = c.in_ok-y.y in
    c.literal.ensures.value a (subst (λ (z : Boxes). IsInBoxes z a) (sym c.domains.ensures.items) w.within)
    ∙ c.range-one.ensures.values (value_of a y)
    ∙ flag_test (value_of a y)
    ∙ ap (λ (z : ℤ). int_eq z (pos 1))
    (picked_cell c.args.slot.now.cells.items c.args.pairs.now v y a (c.requires.slot.owners.held v (before.within c.args.x c.requires.exists)) c.requires.slot.owners.may
    (subst (λ (z : List (ℤ × ℕ)). All (λ (t : ℤ × ℕ). v ≡ t.0 → value_of a y ≡ value_of a t.1) z) items (c.in_ok-y.ensures.value a w)))
