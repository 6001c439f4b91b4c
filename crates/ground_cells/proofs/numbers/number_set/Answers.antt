use Rattle.std.proofs.Common.{◌∙◌}
use Rattle.ground_cells.proofs.NumberRanges.{none_valid}
use Rattle.ground_cells.proofs.numbers.number_set.Goals as goal

-- src/numbers.rt:64:17
pub unreachable-requires : goal.unreachable-requires
unreachable-requires c =
    none_valid c.args.numbers.now c.deref.result.now c.in_ok-set.field-0 (c.deref.ensures.value ∙ c.in_ok-ranges.ensures) c.type_inv.numbers c.in-None.is c.in_ok-set.ensures.variant
