use Rattle.std.proofs.Common.{◌≡◌, ◌||◌, not, List, ℤ, take, length}
use Rattle.form_build.specs.Worlds.{IsWorld}
use Rattle.form_truths.specs.Disjunctions.{disjunction_at, IsWithin}
use Rattle.quantifier_forms.specs.PartValues.{are_true}
use Rattle.quantifier_forms.proofs.cases.push_failing.Given as goal

abbrev pub invariant-loop-body : goal.invariant-loop-body
invariant-loop-body l = record {
  value : (a : List ℤ) → IsWorld l.maker a → disjunction_at l.d a ≡ (disjunction_at l.fn.d a || not (are_true (take l.body-index l.bodies) a));
  exist : IsWithin (length l.maker.domains) l.d.1;
}
