use Rattle.std.proofs.Common.{ap, sym, ◌∙◌, arith, rules, w64, FitsSigned, ◌+ℤ◌, ◌-ℤ◌}
use Rattle.std.proofs.lemmas.Int.{ints}
use Rattle.conf_limits.specs.Limits.{narrowed}
use Rattle.conf_limits.specs.Measures.{operator_interval}
use Rattle.conf_limits.proofs.interval.operator_interval.Goals as goal

pub returns-in-Add : goal.returns-in-Add
returns-in-Add c =
    let a : FitsSigned w64 c.args.i.low = search rules in
    let b : FitsSigned w64 c.args.i.high = search rules in
    let d : FitsSigned w64 c.args.j.low = search rules in
    let e : FitsSigned w64 c.args.j.high = search rules in
    c.narrowed.ensures (c.args.i.low +ℤ c.args.j.low) (c.args.i.high +ℤ c.args.j.high) (omega (arith, ints)) (omega (arith, ints))
    ∙ ap (λ o. narrowed (operator_interval o c.args.i c.args.j)) (sym c.in-Add.is)

pub returns-in-Sub : goal.returns-in-Sub
returns-in-Sub c =
    let a : FitsSigned w64 c.args.i.low = search rules in
    let b : FitsSigned w64 c.args.i.high = search rules in
    let d : FitsSigned w64 c.args.j.low = search rules in
    let e : FitsSigned w64 c.args.j.high = search rules in
    c.narrowed-in-Sub.ensures (c.args.i.low -ℤ c.args.j.high) (c.args.i.high -ℤ c.args.j.low) (omega (arith, ints)) (omega (arith, ints))
    ∙ ap (λ o. narrowed (operator_interval o c.args.i c.args.j)) (sym c.in-Sub.is)
