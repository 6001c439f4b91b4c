use Rattle.std.proofs.Common.{◌≡◌, ◌++◌, drop, ℕ, Option}
use Rattle.object_alloc.specs.Groups.{numbers_from, is_cell_of}
use Rattle.object_alloc.specs.Grouping.{group}
use Rattle.object_alloc.proofs.groups.cells_by_place.Given as goal

-- with what is left each group is that of all cells
abbrev pub invariant-loop-n : goal.invariant-loop-n
invariant-loop-n l =
    (owner : Option ℕ) (k : ℕ) → group l.groups.entries owner k ++ numbers_from (is_cell_of owner k) l.n (drop l.n l.cells) ≡ numbers_from (is_cell_of owner k) 0 l.cells
