use Rattle.std.proofs.Common.{◌≡◌, ◌++◌, take, drop, length}
use Rattle.box_rules.specs.Crowding.{ends_of, AreInOrder}
use Rattle.box_rules.proofs.crowding.ends_row.Given as goal

abbrev pub invariant-loop-i : goal.invariant-loop-i
invariant-loop-i g l = record {
  size : length l.row ≡ 64;
  row : take l.i l.row ++ ends_of (drop l.i l.vars) (g.V.View.boxes l.view) ≡ ends_of l.vars
      (g.V.View.boxes l.view);
  order : AreInOrder (drop l.i l.vars) (g.V.View.boxes l.view) →
      AreInOrder l.vars (g.V.View.boxes l.view);
}
