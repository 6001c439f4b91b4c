use Rattle.std.proofs.Common.{arith, ◌∙◌}
use Rattle.std.proofs.lemmas.Int.{ints}
use Rattle.linear_prop.proofs.Falling.{same_span}
use Rattle.linear_prop.proofs.fall.from_to.Goals as goal

pub returns-clause-values : goal.returns-clause-values
returns-clause-values c v =
    c.range.ensures.values v ∙ same_span _ _ c.args.low.value c.args.high.value v (omega (arith, ints)) (omega (arith, ints))
