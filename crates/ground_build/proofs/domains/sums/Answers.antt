use Rattle.std.proofs.Common.{◌≤ℤ◌, rules, arith, SFits, w64}
use Rattle.std.proofs.lemmas.Int.{ints, to_z-of_z}
use Rattle.ground_build.proofs.Sums.{sums_ordered}
use Rattle.ground_build.proofs.domains.sums.Goals as goal

pub range-requires : goal.range-requires
range-requires c =
    let f : SFits w64 c.plus-least.result.value = search rules in
    let g : SFits w64 c.plus-greatest.result.value = search rules in
    let ordered = sums_ordered c.args.terms.now c.args.boxes.now in
    let le : c.plus-least.result.value ≤ℤ c.plus-greatest.result.value = omega (arith, ints, ordered, c.plus-least.ensures, c.plus-greatest.ensures, c.least_sum.ensures.value, c.greatest_sum.ensures.value) in
    simp to_z-of_z le
