use Rattle.std.proofs.Common.{◌≡◌, ◌++◌, drop}
use Rattle.object_alloc.specs.Cells.{extent_from}
use Rattle.object_alloc.proofs.cells.extent_of.Given as goal

abbrev pub invariant-loop-n : goal.invariant-loop-n
invariant-loop-n l = l.numbers.items ++ extent_from l.table.classes l.class l.n (drop l.n l.objects) ≡ extent_from l.table.classes l.class 0 l.objects
