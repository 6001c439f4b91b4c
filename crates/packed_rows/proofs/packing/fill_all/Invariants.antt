use Rattle.std.proofs.Common.{ℕ, [], ℤ, List, take}
use Rattle.form_build.specs.Worlds.{Defines}
use Rattle.packed_rows.specs.Plans.{ArePacked}
use Rattle.packed_rows.proofs.packing.fill_all.Given as goal

abbrev pub invariant-loop-row : goal.invariant-loop-row
invariant-loop-row l = record {
  packed : (items : List (ℕ × ℤ)) → ArePacked l.fn.maker items [] l.most.value l.fn.packed.items → ArePacked l.maker items (take l.row-index l.rows) l.most.value l.packed.items;
  adds : Defines l.fn.maker l.maker;
}
