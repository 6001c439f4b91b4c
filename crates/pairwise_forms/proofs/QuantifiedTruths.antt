-- A quantifier that compares its members is a truth.
use Rattle.std.proofs.Common.{◌≡◌, List, ℤ, pos, ◌*ℤ◌, ◌≤ℤ◌, length, arith}
use Rattle.std.specs.Int.{int_max, int_min}
use Rattle.std.proofs.lemmas.Int.{ints, clamps}
use Rattle.conf_syntax.specs.declared.tree.QuantKind.TheVariants as kind
use Rattle.conf_eval.specs.declared.value.Value.TheVariants.{Truth}
use Rattle.signed_clause.specs.Clauses.{Boxes}
use Rattle.ground_form.specs.declared.ground.Ground.{Ground}
use Rattle.form_build.specs.declared.form.Truth.{Truth as ATruth}
use Rattle.form_build.specs.Forms.{truth_at, HasVariable}
use Rattle.form_build.specs.Sums.{IsSum}
use Rattle.form_build.specs.Worlds.{IsWorld}
use Rattle.expr_forms.specs.declared.form.Form.TheVariants as form
use Rattle.expr_forms.specs.FormValues.{nought}
use Rattle.quantifier_forms.specs.declared.part.Part.{Part}
use Rattle.quantifier_forms.specs.PartValues.{kept_values, over_values}
use Rattle.quantifier_forms.specs.Quantified.{IsQuantified}
use Rattle.quantifier_forms.proofs.SumLaws.{multiple_below, multiple_above}

nought_sum : (boxes : Boxes) (low high : ℤ) → low ≤ℤ pos 0 → pos 0 ≤ℤ high → IsSum boxes low high nought
nought_sum boxes low high h k = record {
  linear = record { terms = tt; bounded = omega arith };
  lies = record { low_is = omega (arith, ints, h); high_is = omega (arith, ints, k) };
}

-- `pack`
pub fit_quantified : (old new : Ground) (ps : List Part) (t : ATruth) → HasVariable (length new.domains) t → ((a : List ℤ) → IsWorld new a → Truth (truth_at t a) ≡ over_values kind.Pack (kept_values ps a)) → IsQuantified old new kind.Pack ps (form.Truth t)
fit_quantified old new ps t variable value = record {
  value = value;
  number = λ first second n all le.
      nought_sum new.domains (pos n *ℤ int_min second.low (pos 0)) (pos n *ℤ int_max second.high (pos 0))
      (multiple_below n (int_min second.low (pos 0)) (omega (arith, ints, clamps)))
      (multiple_above n (int_max second.high (pos 0)) (omega (arith, ints, clamps)));
  truth = variable;
  typed = λ o. tt;
}
