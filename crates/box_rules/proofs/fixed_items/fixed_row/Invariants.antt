use Rattle.std.proofs.Common.{◌≡◌, ◌≤◌, ◌++◌, take, drop}
use Rattle.box_rules.specs.FixedItems.{fixed_of}
use Rattle.box_rules.proofs.fixed_items.fixed_row.Given as goal

abbrev pub invariant-loop-i : goal.invariant-loop-i
invariant-loop-i g l = record {
  most : l.count ≤ l.i-index;
  row : take l.count l.row ++ fixed_of (drop l.i-index l.items) (g.V.View.boxes l.view) ≡ fixed_of
      l.items (g.V.View.boxes l.view);
}
