use Rattle.std.proofs.Common.{◌≡◌, ◌&&◌, List, ℤ, take, length, nat_eq}
use Rattle.std.specs.List.{All, list_any}
use Rattle.form_build.specs.Forms.{truth_at, HasVariable}
use Rattle.form_build.specs.Worlds.{IsWorld, Defines}
use Rattle.form_truths.specs.Disjunctions.{disjunction_at, IsWithin}
use Rattle.expr_forms.specs.declared.form.Member.{Member}
use Rattle.expr_forms.specs.FormValues.{choice_at}
use Rattle.identity_forms.specs.Choices.{IsChoice}
use Rattle.identity_forms.proofs.membership.is_one_of_members.Given as goal

-- the object is one of the members so far
abbrev pub invariant-loop-m : goal.invariant-loop-m
invariant-loop-m l = record {
  value : (a : List ℤ) → IsWorld l.maker a → disjunction_at l.some a ≡ list_any (λ (m : Member). nat_eq (choice_at l.c a) m.object && truth_at m.is a) (take l.m-index l.members);
  exist : IsWithin (length l.maker.domains) l.some.1;
  adds : Defines l.fn.maker l.maker;
  choice : IsChoice l.maker.domains l.c;
  members : All (λ (m : Member). HasVariable (length l.maker.domains) m.is) l.members;
}
