use Rattle.std.proofs.Common.{◌≡◌, ◌||◌, List, ℤ, drop, length}
use Rattle.std.specs.List.{All}
use Rattle.form_build.specs.Worlds.{IsWorld, Defines}
use Rattle.form_truths.specs.Disjunctions.{disjunction_at, IsWithin}
use Rattle.pairwise_forms.specs.Clashing.{some_clash, IsKeyed}
use Rattle.pairwise_forms.proofs.clashes.no_clash.Given as goal

abbrev pub invariant-loop-i : goal.invariant-loop-i
invariant-loop-i l = record {
  value : (a : List ℤ) → IsWorld l.maker a → (disjunction_at l.clashes a || some_clash (drop l.i l.members) a) ≡ some_clash l.members a;
  exist : IsWithin (length l.maker.domains) l.clashes.1;
  members : All (IsKeyed (length l.maker.domains)) l.members;
  adds : Defines l.fn.maker l.maker;
}
