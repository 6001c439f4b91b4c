use Rattle.std.proofs.Common.{[], arith}
use Rattle.form_build.proofs.Growth.{world_before, adds_nothing, defines_more}
use Rattle.quantifier_forms.proofs.SumLaws.{front_summands, back_summands, summands_kept, made_halves, left_linear, right_linear, halves_value, halves_low, halves_high, halves_sum, none_sum, one_value, one_sum}
use Rattle.quantifier_forms.proofs.totals.+total.Goals as goal

pub total-requires : goal.total-requires
total-requires t c = (
  omega (arith, c.decreases, c.split_at.ensures.front_len, c.in_default.len_at_least),
  front_summands c.args.maker.now.domains _ c.args.sums.now c.split_at.result.0.now c.split_at.ensures.front (omega (arith, c.split_at.ensures.front_len)) c.requires.summands,
)

pub total-requires-in_default : goal.total-requires-in_default
total-requires-in_default t c = (
  omega (arith, c.decreases, c.split_at.ensures.back_len, c.in_default.len_at_least),
  summands_kept c.args.maker.now c.total.new.maker c.split_at.result.1.now c.in_ok-f-in_default.ensures.adds.grows
      (back_summands c.args.maker.now.domains _ c.args.sums.now c.split_at.result.1.now c.split_at.ensures.back (omega (arith, c.split_at.ensures.back_len)) c.requires.summands),
)

pub plus-requires-clause-left : goal.plus-requires-clause-left
plus-requires-clause-left t c =
    let halves = made_halves c.args.maker.now c.total.new.maker c.total-in_default.new.maker _ c.args.sums.now c.split_at.result.0.now c.split_at.result.1.now c.in_ok-f-in_default.f c.in_ok-g-in_default.g
    c.split_at.ensures.front c.split_at.ensures.back (omega (arith, c.split_at.ensures.front_len, c.split_at.ensures.back_len)) c.in_ok-f-in_default.ensures.adds.grows c.in_ok-g-in_default.ensures.adds.grows c.in_ok-f-in_default.ensures.sum c.in_ok-g-in_default.ensures.sum in
    left_linear c.args.maker.now.domains c.total-in_default.new.maker.domains c.args.sums.now c.split_at.result.0.now c.split_at.result.1.now c.in_ok-f-in_default.f c.in_ok-g-in_default.g halves c.requires.summands

pub plus-requires-clause-right : goal.plus-requires-clause-right
plus-requires-clause-right t c =
    let halves = made_halves c.args.maker.now c.total.new.maker c.total-in_default.new.maker _ c.args.sums.now c.split_at.result.0.now c.split_at.result.1.now c.in_ok-f-in_default.f c.in_ok-g-in_default.g
    c.split_at.ensures.front c.split_at.ensures.back (omega (arith, c.split_at.ensures.front_len, c.split_at.ensures.back_len)) c.in_ok-f-in_default.ensures.adds.grows c.in_ok-g-in_default.ensures.adds.grows c.in_ok-f-in_default.ensures.sum c.in_ok-g-in_default.ensures.sum in
    right_linear c.args.maker.now.domains c.total-in_default.new.maker.domains c.args.sums.now c.split_at.result.0.now c.split_at.result.1.now c.in_ok-f-in_default.f c.in_ok-g-in_default.g halves c.requires.summands

pub plus-requires-clause-low : goal.plus-requires-clause-low
plus-requires-clause-low t c =
    let halves = made_halves c.args.maker.now c.total.new.maker c.total-in_default.new.maker _ c.args.sums.now c.split_at.result.0.now c.split_at.result.1.now c.in_ok-f-in_default.f c.in_ok-g-in_default.g
    c.split_at.ensures.front c.split_at.ensures.back (omega (arith, c.split_at.ensures.front_len, c.split_at.ensures.back_len)) c.in_ok-f-in_default.ensures.adds.grows c.in_ok-g-in_default.ensures.adds.grows c.in_ok-f-in_default.ensures.sum c.in_ok-g-in_default.ensures.sum in
    halves_low c.args.maker.now.domains c.total-in_default.new.maker.domains c.args.sums.now c.split_at.result.0.now c.split_at.result.1.now c.in_ok-f-in_default.f c.in_ok-g-in_default.g halves c.requires.summands

pub plus-requires-clause-high : goal.plus-requires-clause-high
plus-requires-clause-high t c =
    let halves = made_halves c.args.maker.now c.total.new.maker c.total-in_default.new.maker _ c.args.sums.now c.split_at.result.0.now c.split_at.result.1.now c.in_ok-f-in_default.f c.in_ok-g-in_default.g
    c.split_at.ensures.front c.split_at.ensures.back (omega (arith, c.split_at.ensures.front_len, c.split_at.ensures.back_len)) c.in_ok-f-in_default.ensures.adds.grows c.in_ok-g-in_default.ensures.adds.grows c.in_ok-f-in_default.ensures.sum c.in_ok-g-in_default.ensures.sum in
    halves_high c.args.maker.now.domains c.total-in_default.new.maker.domains c.args.sums.now c.split_at.result.0.now c.split_at.result.1.now c.in_ok-f-in_default.f c.in_ok-g-in_default.g halves c.requires.summands

pub returns-in-empty-clause-sum : goal.returns-in-empty-clause-sum
returns-in-empty-clause-sum t c = none_sum c.args.maker.now.domains c.args.sums.now c.number.result c.in-empty.len_below (c.number.ensures.linear c.args.maker.now.domains) (c.number.ensures.lies c.args.maker.now.domains)

pub returns-in-empty-clause-adds : goal.returns-in-empty-clause-adds
returns-in-empty-clause-adds t c = adds_nothing [] c.args.maker.now

pub returns-in_ok-r-in-len1-clause-value : goal.returns-in_ok-r-in-len1-clause-value
returns-in_ok-r-in-len1-clause-value t c a w = one_value c.args.sums.now c.only-item.result c.in_ok-r-in-len1.r a c.in-len1.len_at_least c.in-len1.len_below c.only-item.is c.in_ok-r-in-len1.ensures

pub returns-in_ok-r-in-len1-clause-sum : goal.returns-in_ok-r-in-len1-clause-sum
returns-in_ok-r-in-len1-clause-sum t c = one_sum c.args.maker.now.domains c.args.sums.now c.only-item.result c.in_ok-r-in-len1.r c.in-len1.len_at_least c.in-len1.len_below c.only-item.is c.in_ok-r-in-len1.ensures

pub returns-in_ok-r-in-len1-clause-adds : goal.returns-in_ok-r-in-len1-clause-adds
returns-in_ok-r-in-len1-clause-adds t c = adds_nothing [] c.args.maker.now

pub returns-in_ok-r-in_default-clause-value : goal.returns-in_ok-r-in_default-clause-value
returns-in_ok-r-in_default-clause-value t c a w =
    let last = world_before c.total-in_default.new.maker c.plus.new.b a c.in_ok-r-in_default.ensures.adds.grows w in
    let first = world_before c.total.new.maker c.total-in_default.new.maker a c.in_ok-g-in_default.ensures.adds.grows last in
    halves_value a _ c.args.sums.now c.split_at.result.0.now c.split_at.result.1.now c.in_ok-f-in_default.f c.in_ok-g-in_default.g c.in_ok-r-in_default.r c.split_at.ensures.front c.split_at.ensures.back
    (c.in_ok-f-in_default.ensures.value a first) (c.in_ok-g-in_default.ensures.value a last) (c.in_ok-r-in_default.ensures.value a w)

pub returns-in_ok-r-in_default-clause-sum : goal.returns-in_ok-r-in_default-clause-sum
returns-in_ok-r-in_default-clause-sum t c =
    let halves = made_halves c.args.maker.now c.total.new.maker c.total-in_default.new.maker _ c.args.sums.now c.split_at.result.0.now c.split_at.result.1.now c.in_ok-f-in_default.f c.in_ok-g-in_default.g
    c.split_at.ensures.front c.split_at.ensures.back (omega (arith, c.split_at.ensures.front_len, c.split_at.ensures.back_len)) c.in_ok-f-in_default.ensures.adds.grows c.in_ok-g-in_default.ensures.adds.grows c.in_ok-f-in_default.ensures.sum c.in_ok-g-in_default.ensures.sum in
    halves_sum c.args.maker.now.domains c.total-in_default.new.maker.domains c.args.sums.now c.split_at.result.0.now c.split_at.result.1.now c.in_ok-f-in_default.f c.in_ok-g-in_default.g halves
    c.plus.new.b.domains c.in_ok-r-in_default.r c.in_ok-r-in_default.ensures.sum

pub returns-in_ok-r-in_default-clause-adds : goal.returns-in_ok-r-in_default-clause-adds
returns-in_ok-r-in_default-clause-adds t c =
    defines_more c.args.maker.now c.total-in_default.new.maker c.plus.new.b (defines_more c.args.maker.now c.total.new.maker c.total-in_default.new.maker c.in_ok-f-in_default.ensures.adds c.in_ok-g-in_default.ensures.adds) c.in_ok-r-in_default.ensures.adds
