use Rattle.std.proofs.Common.{Bool, ap}
use Rattle.signed_clause.specs.Ranges.{has}
use Rattle.signed_clause.specs.Clauses.{Literals}
use Rattle.ground_form.specs.Meaning.{value_of}
use Rattle.form_build.specs.Forms.{truth_at}
use Rattle.form_truths.specs.Disjunctions.{disjunction_at}
use Rattle.stated_cases.proofs.TableLaws.{pushed}
use Rattle.stated_cases.proofs.tables.disjunction_of.Goals as goal

pub returns-clause-holds : goal.returns-clause-holds
returns-clause-holds c entry a w all =
    let e = c.args.e.now in
    pushed (disjunction_at c.new-d.result a) (disjunction_at c.push.new.self a) (disjunction_at c.push-2.new.self a) (truth_at c.in_ok-others.others a) (truth_at c.in_ok-values.values a) (has e.others (value_of a e.index)) (has e.values (value_of a e.number))
    (ap (λ (d : Bool × Literals). disjunction_at d a) c.new-d.ensures) (c.in_ok-push.ensures.value a) (c.in_ok-push-2.ensures.value a) (c.in_ok-others.ensures.value a w) (c.in_ok-values.ensures.value a w) (entry a w all)
