use Rattle.std.proofs.Common.{Bool, sym, ap, ◌∙◌}
use Rattle.std.specs.Ordering.{int_eq}
use Rattle.ground_form.specs.Meaning.{value_of}
use Rattle.form_truths.specs.Tests.{wanted}
use Rattle.form_truths.proofs.tests.same_truth.Goals as goal

pub returns-then-want-clause-value : goal.returns-then-want-clause-value
returns-then-want-clause-value c a w =
    c.is_one.ensures.value a (int_eq (value_of a c.args.x) (value_of a c.args.y)) (c.in_ok-flag.ensures.flag.value a w)
    ∙ ap (λ (b : Bool). wanted b (int_eq (value_of a c.args.x) (value_of a c.args.y))) (sym c.if-want.true)
