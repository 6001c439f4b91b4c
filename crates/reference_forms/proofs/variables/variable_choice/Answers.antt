use Rattle.std.proofs.Common.{◌≡◌, ◌∙◌, ℤ, true, sym, ap, subst}
use Rattle.std.specs.Prelude.{nat_abs}
use Rattle.signed_clause.specs.Ranges.{has}
use Rattle.signed_clause.specs.Clauses.{box_of}
use Rattle.reference_forms.proofs.variables.variable_choice.Goals as goal

pub returns-in-Some-number_of-clause-value : goal.returns-in-Some-number_of-clause-value
returns-in-Some-number_of-clause-value c a w = ap nat_abs (sym c.in-Some-number_of.ensures ∙ c.in-Some.ensures.value a w)

pub returns-in-Some-number_of-clause-choice : goal.returns-in-Some-number_of-clause-choice
returns-in-Some-number_of-clause-choice c = subst (λ (v : ℤ). has (box_of c.args.maker.now.domains c.args.x) v ≡ true) c.in-Some-number_of.ensures c.in-Some.ensures.has_it
