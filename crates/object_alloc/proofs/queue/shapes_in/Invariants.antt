use Rattle.std.proofs.Common.{◌≡◌, ◌++◌, ℕ, drop}
use Rattle.class_table.specs.Outline.{attributes}
use Rattle.object_alloc.specs.Holding.{kinds_in}
use Rattle.object_alloc.specs.Sums.{kinds_of}
use Rattle.object_alloc.proofs.queue.shapes_in.Given as goal

-- with what the other attributes hold it is what all hold
abbrev pub invariant-loop-k : goal.invariant-loop-k
invariant-loop-k l =
    (d : ℕ) → kinds_in d l.shapes.items ++ kinds_of d (drop l.k (attributes l.table.classes l.class))
    ≡ kinds_of d (attributes l.table.classes l.class)
