use Rattle.std.proofs.Common.{◌++◌, List, [], length, map, refl, sym, ap, subst, arith}
use Rattle.std.specs.List.{All}
use Rattle.std.proofs.lemmas.List.Elements.{All-nil}
use Rattle.ground_form.specs.Meaning.{value_of}
use Rattle.form_build.specs.Forms.{HasVariable}
use Rattle.form_build.proofs.Growth.{world_before, adds_nothing, defines_more, no_less}
use Rattle.expr_forms.specs.declared.form.Member.{Member}
use Rattle.expr_forms.specs.declared.form.Slot.{Slot}
use Rattle.expr_forms.specs.FormValues.{number_for, members_at, owned_at}
use Rattle.expr_forms.proofs.Growing.{boxes_kept}
use Rattle.identity_forms.specs.Lists.{IsOwnedSlot}
use Rattle.identity_forms.proofs.MemberLaws.{owned_step, slots_step, variables_kept, variables_push}
use Rattle.identity_forms.proofs.SlotLaws.{slots_kept}
use Rattle.identity_forms.proofs.members.owned_members.Goals as goal

pub loop-slot-init : goal.loop-slot-init
loop-slot-init c =
    let none = c.new-members.ensures.items in
    record {
      members = λ a w. ap (λ (z : List Member). members_at z a ++ owned_at (number_for (value_of a c.args.x) c.args.pairs.now) c.args.slots.now a) none;
      objects = ap (λ (z : List Member). map (λ (m : Member). m.object) z ++ map (λ (s : Slot). s.object) c.args.slots.now) none;
      variables = subst (λ (z : List Member). All (λ (m : Member). HasVariable (length c.args.maker.now.domains) m.is) z) (sym none) (All-nil (λ (m : Member). HasVariable (length c.args.maker.now.domains) m.is));
      adds = adds_nothing [] c.args.maker.now;
      exists = c.requires.exists;
      slots = c.requires.slots;
    }

pub slot_truth-requires-clause-slot : goal.slot_truth-requires-clause-slot
slot_truth-requires-clause-slot c =
    subst (IsOwnedSlot c.loop-slot.maker.domains c.args.x c.args.pairs.now) (sym c.slot-item.is) (c.loop-slot.invariant.slots c.loop-slot.slot-index c.slot-item.result c.loop-slot-test.true)

pub loop-slot-preserved : goal.loop-slot-preserved
loop-slot-preserved c =
    let i = c.loop-slot.invariant in
    let more = c.in_ok-is.ensures in
    let old = c.loop-slot.maker in
    let new = c.slot_truth.new.maker in
    let kept = boxes_kept old new more.adds.grows in
    let less = no_less old new more.adds.grows in
    let s : Slot = c.slot-item.result in
    let m : Member = record { object = s.object; is = c.in_ok-is.is' } in
    record {
      members = λ a w.
          owned_step (number_for (value_of a c.args.x) c.args.pairs.now) c.args.slots.now a c.loop-slot.slot-index s c.loop-slot.members.items c.push.new.self.items m c.loop-slot-test.true c.slot-item.is c.in_ok-push.ensures.items refl (more.value a w) (i.members a (world_before old new a more.adds.grows w));
      objects = slots_step c.args.slots.now c.loop-slot.slot-index s c.loop-slot.members.items c.push.new.self.items m c.loop-slot-test.true c.slot-item.is c.in_ok-push.ensures.items refl i.objects;
      variables = variables_push (length new.domains) c.loop-slot.members.items c.push.new.self.items m c.in_ok-push.ensures.items more.variable (variables_kept old.domains new.domains kept c.loop-slot.members.items i.variables);
      adds = defines_more c.args.maker.now old new i.adds more.adds;
      exists = omega (arith, i.exists, less);
      slots = slots_kept old.domains new.domains kept c.args.x c.args.pairs.now c.args.slots.now i.exists i.slots;
    }
