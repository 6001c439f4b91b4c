use Rattle.std.proofs.Common.{◌≡◌, ◌+◌, ◌≤◌, drop}
use Rattle.box_rules.specs.Refuted.{count_in}
use Rattle.box_rules.proofs.all_different.count_in.Given as goal

abbrev pub invariant-loop-x : goal.invariant-loop-x
invariant-loop-x g l = record {
  counted : l.count + count_in l.a.value l.b.value (drop l.x-index l.vars) (g.V.View.boxes l.view) ≡ count_in l.a.value l.b.value l.vars (g.V.View.boxes l.view);
  few : l.count ≤ l.x-index;
}
