use Rattle.std.proofs.Common.{◌≤ℤ◌, ◌<ℤ◌, ◌^◌, pos, arith}
use Rattle.std.proofs.lemmas.Int.{ints}
use Rattle.linear_prop.proofs.FarValues.{high_all, high_some}
use Rattle.linear_prop.proofs.far.high_cause.Goals as goal

pub returns-then-low_end-gt-MOST_SUM : goal.returns-then-low_end-gt-MOST_SUM
returns-then-low_end-gt-MOST_SUM c =
    let far : pos (2 ^ 60) <ℤ c.low_end.result.value = grind (arith, ints) in
    high_all c.args.out c.args.boxes.now c.low_end.result.value _ c.set_at.result.now c.low_end.ensures.value c.set_at.ensures c.requires.order far

pub returns-else-low_end-gt-MOST_SUM : goal.returns-else-low_end-gt-MOST_SUM
returns-else-low_end-gt-MOST_SUM c =
    let near : c.low_end.result.value ≤ℤ pos (2 ^ 60) = grind (arith, ints) in
    high_some c.args.out c.args.boxes.now c.low_end.result.value _ c.set_at.result.now c.low_end.ensures.value c.set_at.ensures c.requires.order near c.requires.far c.of-else-low_end-gt-MOST_SUM.ensures.value
