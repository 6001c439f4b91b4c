use Rattle.std.proofs.Common.{◌<◌, [], ℤ, take, length}
use Rattle.std.specs.List.{All}
use Rattle.form_build.specs.Worlds.{Defines}
use Rattle.packed_rows.specs.Plans.{IsConstant, ArePacked}
use Rattle.packed_rows.proofs.packing.packed_items.Given as goal

abbrev pub invariant-loop-item : goal.invariant-loop-item
invariant-loop-item l = record {
  exist : All (λ i. i.0 < length l.maker.domains) l.items;
  packed : (most : ℤ) → IsConstant l.fn.maker l.room most → ArePacked l.maker (take l.item-index l.items) [] most l.packed.items;
  adds : Defines l.fn.maker l.maker;
}
