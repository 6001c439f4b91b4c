use Rattle.std.proofs.Common.{◌≡◌, ◌&&◌, ◌<◌, List, ℤ, take, length, nat_eq}
use Rattle.std.specs.List.{All, list_any}
use Rattle.ground_form.specs.Meaning.{value_of}
use Rattle.form_build.specs.Worlds.{IsWorld, Defines}
use Rattle.form_truths.specs.Disjunctions.{disjunction_at, IsWithin}
use Rattle.expr_forms.specs.declared.form.Slot.{Slot}
use Rattle.expr_forms.specs.FormValues.{choice_at, number_for}
use Rattle.identity_forms.specs.Choices.{IsChoice}
use Rattle.identity_forms.specs.Lists.{IsOwnedSlot}
use Rattle.identity_forms.proofs.MemberLaws.{is_owned}
use Rattle.identity_forms.proofs.membership.is_one_of_slots.Given as goal

-- the object is in the set by one of the slots so far
abbrev pub invariant-loop-slot : goal.invariant-loop-slot
invariant-loop-slot l = record {
  value : (a : List ℤ) → IsWorld l.maker a → disjunction_at l.some a ≡ list_any (λ (s : Slot). nat_eq (choice_at l.c a) s.object && is_owned (number_for (value_of a l.x) l.pairs) a s) (take l.slot-index l.slots);
  exist : IsWithin (length l.maker.domains) l.some.1;
  adds : Defines l.fn.maker l.maker;
  choice : IsChoice l.maker.domains l.c;
  exists : l.x < length l.maker.domains;
  slots : All (IsOwnedSlot l.maker.domains l.x l.pairs) l.slots;
}
