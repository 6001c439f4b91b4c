use Rattle.std.proofs.Common.{◌∙◌, ℤ, ap, pos}
use Rattle.conf_eval.specs.Meaning.{int_same}
use Rattle.reference_forms.proofs.variables.variable_truth.Goals as goal

pub returns-in-Some-clause-value : goal.returns-in-Some-clause-value
returns-in-Some-clause-value c a w = c.is_one.ensures ∙ ap (λ (z : ℤ). int_same z (pos 1)) (c.in-Some.ensures.value a w)
