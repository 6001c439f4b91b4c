use Rattle.std.proofs.Common.{[], pos, length, ◌^◌, arith}
use Rattle.signed_clause.specs.Ranges.{has}
use Rattle.form_build.proofs.Growth.{no_less, world_before, adds_nothing, defines_more}
use Rattle.form_build.proofs.Keeping.{linear_kept, sum_kept}
use Rattle.packing_sums.specs.Loads.{size_of}
use Rattle.packing_sums.proofs.HalfLaws.{both_sizes, front_items, back_items, both_values, both_low, both_high, both_sum}
use Rattle.packing_sums.proofs.inside.+sizes_inside.Goals as goal

pub sizes_inside-requires : goal.sizes_inside-requires
sizes_inside-requires t c = (
  omega (arith, c.decreases, c.split_at.ensures.front_len, c.in_default.len_at_least),
  (
    front_items (length c.args.maker.now.domains) _ c.args.items.now c.split_at.result.0.now c.split_at.ensures.front c.requires.exist,
    let sizes = both_sizes _ c.args.items.now c.split_at.result.0.now c.split_at.result.1.now c.split_at.ensures.front c.split_at.ensures.back in omega (arith, sizes, c.requires.light),
  ),
)

pub sizes_inside-requires-in_default : goal.sizes_inside-requires-in_default
sizes_inside-requires-in_default t c = (
  omega (arith, c.decreases, c.split_at.ensures.back_len, c.in_default.len_at_least),
  (
    back_items (length c.args.maker.now.domains) (length c.sizes_inside.new.maker.domains) _ c.args.items.now c.split_at.result.1.now c.split_at.ensures.back (no_less c.args.maker.now c.sizes_inside.new.maker c.in_ok-f-in_default.ensures.adds.grows) c.requires.exist,
    let sizes = both_sizes _ c.args.items.now c.split_at.result.0.now c.split_at.result.1.now c.split_at.ensures.front c.split_at.ensures.back in omega (arith, sizes, c.requires.light),
  ),
)

pub plus-requires-clause-left : goal.plus-requires-clause-left
plus-requires-clause-left t c =
    linear_kept (2 ^ 58) c.sizes_inside.new.maker c.sizes_inside-in_default.new.maker c.in_ok-f-in_default.f c.in_ok-g-in_default.ensures.adds.grows c.in_ok-f-in_default.ensures.sum.linear

pub plus-requires-clause-low : goal.plus-requires-clause-low
plus-requires-clause-low t c =
    let m = size_of c.split_at.result.0.now in
    both_low c.sizes_inside-in_default.new.maker.domains m (size_of c.split_at.result.1.now) c.in_ok-f-in_default.f c.in_ok-g-in_default.g
    (sum_kept (pos 0) (pos m) c.sizes_inside.new.maker c.sizes_inside-in_default.new.maker c.in_ok-f-in_default.f c.in_ok-g-in_default.ensures.adds.grows c.in_ok-f-in_default.ensures.sum)
    c.in_ok-g-in_default.ensures.sum

pub plus-requires-clause-high : goal.plus-requires-clause-high
plus-requires-clause-high t c =
    let m = size_of c.split_at.result.0.now in
    both_high c.sizes_inside-in_default.new.maker.domains m (size_of c.split_at.result.1.now) (size_of c.args.items.now) c.in_ok-f-in_default.f c.in_ok-g-in_default.g
    (both_sizes _ c.args.items.now c.split_at.result.0.now c.split_at.result.1.now c.split_at.ensures.front c.split_at.ensures.back) c.requires.light
    (sum_kept (pos 0) (pos m) c.sizes_inside.new.maker c.sizes_inside-in_default.new.maker c.in_ok-f-in_default.f c.in_ok-g-in_default.ensures.adds.grows c.in_ok-f-in_default.ensures.sum)
    c.in_ok-g-in_default.ensures.sum

pub returns-in-empty-clause-adds : goal.returns-in-empty-clause-adds
returns-in-empty-clause-adds t c = adds_nothing [] c.args.maker.now

pub returns-in_ok-r-in_default-clause-value : goal.returns-in_ok-r-in_default-clause-value
returns-in_ok-r-in_default-clause-value t c a w =
    let last = world_before c.sizes_inside-in_default.new.maker c.plus.new.b a c.in_ok-r-in_default.ensures.adds.grows w in
    let first = world_before c.sizes_inside.new.maker c.sizes_inside-in_default.new.maker a c.in_ok-g-in_default.ensures.adds.grows last in
    both_values (has c.args.set.now) a _ c.args.items.now c.split_at.result.0.now c.split_at.result.1.now c.in_ok-f-in_default.f c.in_ok-g-in_default.g c.in_ok-r-in_default.r
    c.split_at.ensures.front c.split_at.ensures.back (c.in_ok-f-in_default.ensures.value a first) (c.in_ok-g-in_default.ensures.value a last) (c.in_ok-r-in_default.ensures.value a w)

pub returns-in_ok-r-in_default-clause-sum : goal.returns-in_ok-r-in_default-clause-sum
returns-in_ok-r-in_default-clause-sum t c =
    let m = size_of c.split_at.result.0.now in
    both_sum c.sizes_inside-in_default.new.maker.domains c.plus.new.b.domains m (size_of c.split_at.result.1.now) (size_of c.args.items.now) c.in_ok-f-in_default.f c.in_ok-g-in_default.g c.in_ok-r-in_default.r
    (both_sizes _ c.args.items.now c.split_at.result.0.now c.split_at.result.1.now c.split_at.ensures.front c.split_at.ensures.back)
    (sum_kept (pos 0) (pos m) c.sizes_inside.new.maker c.sizes_inside-in_default.new.maker c.in_ok-f-in_default.f c.in_ok-g-in_default.ensures.adds.grows c.in_ok-f-in_default.ensures.sum)
    c.in_ok-g-in_default.ensures.sum c.in_ok-r-in_default.ensures.sum

pub returns-in_ok-r-in_default-clause-adds : goal.returns-in_ok-r-in_default-clause-adds
returns-in_ok-r-in_default-clause-adds t c =
    defines_more c.args.maker.now c.sizes_inside-in_default.new.maker c.plus.new.b
    (defines_more c.args.maker.now c.sizes_inside.new.maker c.sizes_inside-in_default.new.maker c.in_ok-f-in_default.ensures.adds c.in_ok-g-in_default.ensures.adds)
    c.in_ok-r-in_default.ensures.adds
