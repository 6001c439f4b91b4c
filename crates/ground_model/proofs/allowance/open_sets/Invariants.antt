use Rattle.std.proofs.Common.{◌≡◌, ◌+◌, ◌≤◌, length, drop}
use Rattle.std.specs.Prelude.{filter}
use Rattle.ground_model.specs.Allowance.{is_open_set}
use Rattle.ground_model.proofs.allowance.open_sets.Given as goal

abbrev pub invariant-loop-leaf : goal.invariant-loop-leaf
invariant-loop-leaf l = record {
  few : l.count ≤ l.leaf-index;
  counted : l.count + length (filter (is_open_set l.objects) (drop l.leaf-index l.leaves)) ≡ length (filter (is_open_set l.objects) l.leaves);
}
