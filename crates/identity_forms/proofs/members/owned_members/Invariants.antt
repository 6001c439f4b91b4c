use Rattle.std.proofs.Common.{◌≡◌, ◌++◌, ◌<◌, List, ℤ, drop, map, length}
use Rattle.std.specs.List.{All}
use Rattle.ground_form.specs.Meaning.{value_of}
use Rattle.form_build.specs.Forms.{HasVariable}
use Rattle.form_build.specs.Worlds.{IsWorld, Defines}
use Rattle.expr_forms.specs.declared.form.Member.{Member}
use Rattle.expr_forms.specs.declared.form.Slot.{Slot}
use Rattle.expr_forms.specs.FormValues.{number_for, members_at, owned_at}
use Rattle.identity_forms.specs.Lists.{IsOwnedSlot}
use Rattle.identity_forms.proofs.members.owned_members.Given as goal

-- with what is left they are those of all slots
abbrev pub invariant-loop-slot : goal.invariant-loop-slot
invariant-loop-slot l = record {
  members : (a : List ℤ) → IsWorld l.maker a → members_at l.members.items a ++ owned_at (number_for (value_of a l.x) l.pairs) (drop l.slot-index l.slots) a ≡ owned_at (number_for (value_of a l.x) l.pairs) l.slots a;
  objects : map (λ (m : Member). m.object) l.members.items ++ map (λ (s : Slot). s.object) (drop l.slot-index l.slots) ≡ map (λ (s : Slot). s.object) l.slots;
  variables : All (λ (m : Member). HasVariable (length l.maker.domains) m.is) l.members.items;
  adds : Defines l.fn.maker l.maker;
  exists : l.x < length l.maker.domains;
  slots : All (IsOwnedSlot l.maker.domains l.x l.pairs) l.slots;
}
