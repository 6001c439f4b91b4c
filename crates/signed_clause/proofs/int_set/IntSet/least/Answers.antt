use Rattle.std.proofs.Common.{◌<◌, pos, slice_index_or, length, rules, arith, SFits, w64}
use Rattle.std.proofs.lemmas.Int.{to_z-of_z}
use Rattle.std.proofs.lemmas.Bool.Decides.{nat_tests}
use Rattle.signed_clause.proofs.SetFacts.{least_law}
use Rattle.signed_clause.proofs.int_set.IntSet.least.Goals as goal

pub returns-else-is_empty-clause-least : goal.returns-else-is_empty-clause-least
returns-else-is_empty-clause-least c =
    let xs = c.ranges-ranges.result.now in
    let fits : SFits w64 (slice_index_or xs 0 (pos 0, pos 0)).0 = search rules in
    let some : 0 < length xs = grind (arith, nat_tests) in
    simp to_z-of_z (least_law c.args.self.now xs c.ranges-ranges.ensures.valid c.ranges-ranges.ensures.items some)
