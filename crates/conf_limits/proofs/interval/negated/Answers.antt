use Rattle.std.proofs.Common.{neg_ℤ, arith, rules, w64, FitsSigned}
use Rattle.std.proofs.lemmas.Int.{ints}
use Rattle.conf_limits.proofs.interval.negated.Goals as goal

pub returns : goal.returns
returns c =
    let l : FitsSigned w64 c.args.i.low = search rules in
    let h : FitsSigned w64 c.args.i.high = search rules in
    c.narrowed.ensures (neg_ℤ c.args.i.high) (neg_ℤ c.args.i.low) (omega (arith, ints)) (omega (arith, ints))
