use Rattle.std.proofs.Common.{◌≡◌, ◌++◌, drop}
use Rattle.object_alloc.specs.Cells.{member_cells}
use Rattle.object_alloc.proofs.cells.push_members.Given as goal

abbrev pub invariant-loop-number : goal.invariant-loop-number
invariant-loop-number l = l.cells.items ++ member_cells l.leaf (drop l.number-index l.numbers) ≡ l.fn.cells.items ++ member_cells l.leaf l.numbers
