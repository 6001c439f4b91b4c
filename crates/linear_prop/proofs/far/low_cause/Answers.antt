use Rattle.std.proofs.Common.{◌≤ℤ◌, ◌<ℤ◌, negsuc, arith}
use Rattle.std.proofs.lemmas.Int.{ints}
use Rattle.linear_prop.proofs.FarValues.{low_all, low_some}
use Rattle.linear_prop.proofs.far.low_cause.Goals as goal

pub returns-then-high_end : goal.returns-then-high_end
returns-then-high_end c =
    let far : c.high_end.result.value <ℤ negsuc 1152921504606846975 = grind (arith, ints) in
    low_all c.args.out c.args.boxes.now c.high_end.result.value _ c.set_at.result.now c.high_end.ensures.value c.set_at.ensures c.requires.order far

pub returns-else-high_end : goal.returns-else-high_end
returns-else-high_end c =
    let near : negsuc 1152921504606846975 ≤ℤ c.high_end.result.value = grind (arith, ints) in
    low_some c.args.out c.args.boxes.now c.high_end.result.value _ c.set_at.result.now c.high_end.ensures.value c.set_at.ensures c.requires.order near c.requires.far c.of-else-high_end.ensures.value
