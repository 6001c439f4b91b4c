use Rattle.std.proofs.Common.{◌≡◌, ◌||◌, List, ℤ, take, length}
use Rattle.std.specs.List.{All, list_any}
use Rattle.form_build.specs.Worlds.{IsWorld, Defines}
use Rattle.form_truths.specs.Disjunctions.{disjunction_at, IsWithin}
use Rattle.pairwise_forms.specs.Clashing.{clash_at, IsKeyed}
use Rattle.pairwise_forms.proofs.clashes.push_clashes.Given as goal

abbrev pub invariant-loop-f : goal.invariant-loop-f
invariant-loop-f l = record {
  value : (a : List ℤ) → IsWorld l.maker a → disjunction_at l.d a ≡ (disjunction_at l.fn.d a || list_any (λ f. clash_at l.e f a) (take l.f-index l.others));
  exist : IsWithin (length l.maker.domains) l.d.1;
  left : IsKeyed (length l.maker.domains) l.e;
  right : All (IsKeyed (length l.maker.domains)) l.others;
  adds : Defines l.fn.maker l.maker;
}
