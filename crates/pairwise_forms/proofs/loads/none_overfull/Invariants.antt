use Rattle.std.proofs.Common.{◌≡◌, List, ℤ, take, length}
use Rattle.std.specs.List.{All, list_any}
use Rattle.form_build.specs.Worlds.{IsWorld, Defines}
use Rattle.form_truths.specs.Disjunctions.{disjunction_at, IsWithin}
use Rattle.pairwise_forms.specs.Packing.{is_overfull, IsPacked, AreNarrow}
use Rattle.pairwise_forms.proofs.loads.none_overfull.Given as goal

abbrev pub invariant-loop-e : goal.invariant-loop-e
invariant-loop-e l = record {
  value : (a : List ℤ) → IsWorld l.maker a → disjunction_at l.some a ≡ list_any (λ e. is_overfull l.items e a) (take l.e-index l.items);
  exist : IsWithin (length l.maker.domains) l.some.1;
  items : All (IsPacked l.maker.domains) l.items;
  narrow : AreNarrow l.maker.domains l.items;
  adds : Defines l.fn.maker l.maker;
}
