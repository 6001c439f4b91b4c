use Rattle.std.proofs.Common.{◌<◌, ◌-◌, pos, slice_index_or, length, rules, arith, SFits, w64}
use Rattle.std.proofs.lemmas.Int.{to_z-of_z}
use Rattle.std.proofs.lemmas.Bool.Decides.{nat_tests}
use Rattle.signed_clause.proofs.SetFacts.{greatest_law}
use Rattle.signed_clause.proofs.int_set.IntSet.greatest.Goals as goal

pub returns-else-is_empty-clause-greatest : goal.returns-else-is_empty-clause-greatest
returns-else-is_empty-clause-greatest c =
    let xs = c.ranges-ranges.result.now in
    let fits : SFits w64 (slice_index_or xs (length xs - 1) (pos 0, pos 0)).1 = search rules in
    let some : 0 < length xs = grind (arith, nat_tests) in
    simp to_z-of_z (greatest_law c.args.self.now xs c.ranges-ranges.ensures.valid c.ranges-ranges.ensures.items some)
