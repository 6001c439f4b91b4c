use Rattle.std.proofs.Common.{◌+◌, ◌-◌, ◌/◌, sym, ◌∙◌, arith, SFits, w64}
use Rattle.std.proofs.lemmas.Int.{to_z-of_z}
use Rattle.signed_clause.proofs.RangeSteps.{search-upper, search-end}
use Rattle.signed_clause.proofs.int_set.IntSet.contains.Goals as goal

pub loop-low-preserved-then-ends_before : goal.loop-low-preserved-then-ends_before
loop-low-preserved-then-ends_before c =
    let fits : SFits w64 c.args.v = c.ranges.v in
    let inv = simp to_z-of_z at c.loop-low.invariant in
    let test = simp to_z-of_z at c.ends_before.ensures in
    let middle = c.loop-low.low + (c.loop-low.high - c.loop-low.low) / 2 in
    let left = search-upper c.args.self.now c.ranges-ranges.result.now middle c.args.v c.ranges-ranges.ensures.valid c.ranges-ranges.ensures.items (omega arith) (sym test ∙ c.if-ends_before.true) in
    simp to_z-of_z (record { left = left; reached = inv.reached; ordered = omega arith; in_range = omega arith })

pub returns-then-low-ranges : goal.returns-then-low-ranges
returns-then-low-ranges c =
    let fits : SFits w64 c.args.v = c.ranges.v in
    let inv = simp to_z-of_z at c.loop-low.invariant in
    let first = simp to_z-of_z at c.begins_by.ensures in
    first ∙ search-end c.args.self.now c.ranges-ranges.result.now c.loop-low.low c.loop-low.high c.args.v c.ranges-ranges.ensures.valid c.ranges-ranges.ensures.items
    c.if-low-ranges.true inv.left inv.ordered c.loop-low-test.false inv.reached
