use Rattle.std.proofs.Common.{arith, ◌*◌, ◌^◌}
use Rattle.std.proofs.lemmas.Int.{ints}
use Rattle.ground_build.proofs.Sums.{sums_ordered}
use Rattle.form_build.specs.Forms.{linear_at}
use Rattle.form_build.specs.Sums.{least_linear, greatest_linear}
use Rattle.form_build.proofs.Linears.{linear_more, numbers_within, sum_wider, minus_one, less_low, less_high}
use Rattle.form_build.proofs.arithmetic.minus.Goals as goal

pub times-requires : goal.times-requires
times-requires c = record { numbers = numbers_within c.args.b.now.domains (2 ^ 58) (2 ^ 62) c.args.g.now (omega arith) c.requires.right }

pub plus-requires-clause-right : goal.plus-requires-clause-right
plus-requires-clause-right c =
    linear_more (1 * 2 ^ 58) (2 ^ 58) c.args.b.now.domains c.in_ok-less.less (omega arith)
    (c.in_ok-less.ensures.linear c.args.b.now.domains (2 ^ 58) c.requires.right)

pub plus-requires-clause-low : goal.plus-requires-clause-low
plus-requires-clause-low c =
    let boxes = c.args.b.now.domains in
    let order = sums_ordered c.args.g.now.terms boxes in
    let low = less_low (least_linear c.args.g.now boxes) (greatest_linear c.args.g.now boxes) _ (omega (arith, ints, order)) (c.in_ok-less.ensures.low boxes) in
    omega (arith, ints, low, c.requires.low)

pub plus-requires-clause-high : goal.plus-requires-clause-high
plus-requires-clause-high c =
    let boxes = c.args.b.now.domains in
    let order = sums_ordered c.args.g.now.terms boxes in
    let high = less_high (least_linear c.args.g.now boxes) (greatest_linear c.args.g.now boxes) _ (omega (arith, ints, order)) (c.in_ok-less.ensures.high boxes) in
    omega (arith, ints, high, c.requires.high)

pub returns-clause-value : goal.returns-clause-value
returns-clause-value c a w =
    let sum = c.in_ok-r.ensures.value a w in
    let less = c.in_ok-less.ensures.value a in
    let one = minus_one (linear_at c.args.g.now a) in
    omega (arith, ints, sum, less, one)

pub returns-clause-sum : goal.returns-clause-sum
returns-clause-sum c =
    let boxes = c.args.b.now.domains in
    let order = sums_ordered c.args.g.now.terms boxes in
    let low = less_low (least_linear c.args.g.now boxes) (greatest_linear c.args.g.now boxes) _ (omega (arith, ints, order)) (c.in_ok-less.ensures.low boxes) in
    let high = less_high (least_linear c.args.g.now boxes) (greatest_linear c.args.g.now boxes) _ (omega (arith, ints, order)) (c.in_ok-less.ensures.high boxes) in
    sum_wider _ _ _ _ _ c.in_ok-r.r (omega (arith, ints, low)) (omega (arith, ints, high)) c.in_ok-r.ensures.sum
