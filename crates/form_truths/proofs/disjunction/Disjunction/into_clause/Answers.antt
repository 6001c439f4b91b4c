use Rattle.form_truths.proofs.Inserting.{form_true}
use Rattle.form_truths.proofs.disjunction.Disjunction.into_clause.Goals as goal

pub returns-clause-holds : goal.returns-clause-holds
returns-clause-holds c = ((λ e. absurd cc), (λ h. c.in-Err.ensures.variant.1 (form_true 0 c.self.inside.literals.items c.self.invariant)))
