use Rattle.std.proofs.Common.{◌<◌, ◌&&◌, ◌∙◌, ℕ, Bool, [], length, nat_eq, refl, sym, ap, subst, arith}
use Rattle.std.specs.List.{list_any}
use Rattle.std.proofs.lemmas.List.{take_all}
use Rattle.std.proofs.lemmas.List.Elements.{All-nil}
use Rattle.signed_clause.specs.Clauses.{Literal, Literals}
use Rattle.ground_form.specs.Meaning.{value_of}
use Rattle.form_build.specs.Forms.{truth_at}
use Rattle.form_build.proofs.Growth.{world_before, adds_nothing, defines_more, no_less}
use Rattle.form_truths.specs.Disjunctions.{disjunction_at, IsWithin}
use Rattle.expr_forms.specs.declared.form.Slot.{Slot}
use Rattle.expr_forms.specs.FormValues.{choice_at, number_for}
use Rattle.expr_forms.proofs.Growing.{boxes_kept, choice_kept}
use Rattle.identity_forms.specs.Lists.{IsOwnedSlot}
use Rattle.identity_forms.proofs.MemberLaws.{is_owned, any_owned}
use Rattle.identity_forms.proofs.PairLaws.{both_same, any_step}
use Rattle.identity_forms.proofs.SlotLaws.{slots_kept}
use Rattle.identity_forms.proofs.membership.is_one_of_slots.Goals as goal

pub loop-slot-init : goal.loop-slot-init
loop-slot-init c = record {
  value = λ a w. ap (λ (z : Bool × Literals). disjunction_at z a) c.new-some.ensures;
  exist = subst (λ (z : Bool × Literals). IsWithin (length c.args.maker.now.domains) z.1) (sym c.new-some.ensures) (All-nil (λ (l : Literal). l.0 < length c.args.maker.now.domains));
  adds = adds_nothing [] c.args.maker.now;
  choice = c.requires.choice;
  exists = c.requires.exists;
  slots = c.requires.slots;
}

pub push_slot-requires-clause-slot : goal.push_slot-requires-clause-slot
push_slot-requires-clause-slot c =
    subst (IsOwnedSlot c.loop-slot.maker.domains c.args.x c.args.pairs.now) (sym c.slot-item.is) (c.loop-slot.invariant.slots c.loop-slot.slot-index c.slot-item.result c.loop-slot-test.true)

pub loop-slot-preserved : goal.loop-slot-preserved
loop-slot-preserved c =
    let i = c.loop-slot.invariant in
    let more = c.in_ok-push_slot.ensures in
    let kept = boxes_kept c.loop-slot.maker c.push_slot.new.maker more.adds.grows in
    let less = no_less c.loop-slot.maker c.push_slot.new.maker more.adds.grows in
    record {
      value = λ a w.
          let before = world_before c.loop-slot.maker c.push_slot.new.maker a more.adds.grows w in
          let owner : ℕ = number_for (value_of a c.args.x) c.args.pairs.now in
          any_step (λ (s : Slot). nat_eq (choice_at c.args.c.now a) s.object && is_owned owner a s) c.args.slots.now c.loop-slot.slot-index c.slot-item.result (disjunction_at c.loop-slot.some a) (disjunction_at c.push_slot.new.some a)
          (truth_at c.in_ok-same.same a && is_owned owner a c.slot-item.result) c.loop-slot-test.true (i.value a before) (more.value a w)
          (both_same _ _ _ _ (c.in_ok-same.ensures.value a before.within) refl ∙ ap (λ (s : Slot). nat_eq (choice_at c.args.c.now a) s.object && is_owned owner a s) c.slot-item.is);
      exist = more.exist i.exist;
      adds = defines_more c.args.maker.now c.loop-slot.maker c.push_slot.new.maker i.adds more.adds;
      choice = choice_kept c.loop-slot.maker.domains c.push_slot.new.maker.domains kept (λ n. Unit {0}) c.args.c.now i.choice;
      exists = omega (arith, i.exists, less);
      slots = slots_kept c.loop-slot.maker.domains c.push_slot.new.maker.domains kept c.args.x c.args.pairs.now c.args.slots.now i.exists i.slots;
    }

pub returns-clause-value : goal.returns-clause-value
returns-clause-value c a w =
    let i = c.loop-slot.invariant in
    let before = world_before c.loop-slot.maker c.truth_in_blocks.new.m a c.in_ok-t.ensures.adds.grows w in
    let owner : ℕ = number_for (value_of a c.args.x) c.args.pairs.now in
    c.in_ok-t.ensures.value a w ∙ i.value a before
    ∙ ap (list_any (λ (s : Slot). nat_eq (choice_at c.args.c.now a) s.object && is_owned owner a s)) (take_all c.loop-slot.slot-index c.args.slots.now c.loop-slot-test.false)
    ∙ any_owned (choice_at c.args.c.now a) owner c.args.slots.now a

pub returns-clause-adds : goal.returns-clause-adds
returns-clause-adds c = defines_more c.args.maker.now c.loop-slot.maker c.truth_in_blocks.new.m c.loop-slot.invariant.adds c.in_ok-t.ensures.adds
