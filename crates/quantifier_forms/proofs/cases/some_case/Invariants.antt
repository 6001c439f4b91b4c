use Rattle.std.proofs.Common.{◌≡◌, List, ℤ, take, length}
use Rattle.std.specs.List.{list_any}
use Rattle.form_build.specs.Worlds.{IsWorld, Defines}
use Rattle.form_truths.specs.Disjunctions.{disjunction_at, IsWithin}
use Rattle.quantifier_forms.specs.PartValues.{is_case}
use Rattle.quantifier_forms.proofs.cases.some_case.Given as goal

abbrev pub invariant-loop-p : goal.invariant-loop-p
invariant-loop-p l = record {
  value : (a : List ℤ) → IsWorld l.maker a → disjunction_at l.cases a ≡ list_any (λ p. is_case l.want p a) (take l.p-index l.parts);
  exist : IsWithin (length l.maker.domains) l.cases.1;
  adds : Defines l.fn.maker l.maker;
}
