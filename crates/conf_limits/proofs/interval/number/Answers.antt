use Rattle.std.proofs.Common.{pos, arith}
use Rattle.std.proofs.lemmas.Int.{ints}
use Rattle.conf_limits.proofs.interval.number.Goals as goal

pub returns : goal.returns
returns c =
    let h = c.ranges.value in
    c.narrowed.ensures (pos c.args.value) (pos c.args.value) (omega (arith, ints)) (omega (arith, ints))
