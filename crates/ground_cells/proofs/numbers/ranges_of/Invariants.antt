use Rattle.std.proofs.Common.{◌≡◌, ◌++◌, drop, map}
use Rattle.signed_clause.specs.Merging.{fuse_pending}
use Rattle.ground_cells.specs.CellBoxes.{single, number_ranges}
use Rattle.ground_cells.proofs.numbers.ranges_of.Given as goal

-- with what is left the ranges are those of all
abbrev pub invariant-loop-n : goal.invariant-loop-n
invariant-loop-n l = l.out.items ++ fuse_pending l.pending (map single (drop l.n-index l.numbers)) ≡ number_ranges l.numbers
