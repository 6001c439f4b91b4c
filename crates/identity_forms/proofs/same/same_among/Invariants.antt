use Rattle.std.proofs.Common.{◌≡◌, ◌&&◌, List, ℤ, take, length, nat_eq}
use Rattle.std.specs.List.{list_any}
use Rattle.form_build.specs.Worlds.{IsWorld, Defines}
use Rattle.form_truths.specs.Disjunctions.{disjunction_at, IsWithin}
use Rattle.expr_forms.specs.FormValues.{choice_at}
use Rattle.identity_forms.specs.Choices.{IsChoice}
use Rattle.identity_forms.proofs.same.same_among.Given as goal

-- both are the same one of the objects so far
abbrev pub invariant-loop-n : goal.invariant-loop-n
invariant-loop-n l = record {
  value : (a : List ℤ) → IsWorld l.maker a → disjunction_at l.some a ≡ list_any (λ n. nat_eq (choice_at l.c a) n && nat_eq (choice_at l.d a) n) (take l.n-index l.objects);
  exist : IsWithin (length l.maker.domains) l.some.1;
  adds : Defines l.fn.maker l.maker;
  left : IsChoice l.maker.domains l.c;
  right : IsChoice l.maker.domains l.d;
}
