use Rattle.std.proofs.Common.{rules, subst, w64, ℤ}
use Rattle.std.specs.Prelude.{unsigned_abs}
use Rattle.std.proofs.lemmas.Int.{to_z-of_z}
use Rattle.form_build.specs.Sums.{IsLinear, LiesFrom}
use Rattle.ground_expr.proofs.KnownLaws.{known_sum}
use Rattle.ground_expr.proofs.known.known_number.Goals as goal

pub returns-in-Some-known_value-clause-sum : goal.returns-in-Some-known_value-clause-sum
returns-in-Some-known_value-clause-sum c low high h =
    let boxes = c.args.maker.now.domains in
    let v = c.in-Some-known_value.v in
    let same = to_z-of_z w64 v (search rules) in
    known_sum boxes c.args.known.now low high c.args.f c.number.result c.in-Some.x v c.in-Some.ensures c.in-Some-known_value.ensures
    (subst (λ (z : ℤ). IsLinear (unsigned_abs z) boxes c.number.result) same (c.number.ensures.linear boxes))
    (subst (λ (z : ℤ). LiesFrom z z boxes c.number.result) same (c.number.ensures.lies boxes)) h
