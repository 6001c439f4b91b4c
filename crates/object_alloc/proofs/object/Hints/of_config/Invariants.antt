use Rattle.std.proofs.Common.{◌≡◌, ◌++◌, Some, drop, map}
use Rattle.object_alloc.proofs.object.Hints.of_config.Given as goal

abbrev pub invariant-loop-value : goal.invariant-loop-value
invariant-loop-value l = l.values.items ++ map Some (drop l.value-index l.value-items) ≡ map Some l.value-items
