use Rattle.std.proofs.Common.{◌≡◌, length, ℕ, None}
use Rattle.object_alloc.specs.Listed.{listed}
use Rattle.object_alloc.proofs.cells.no_lists.Given as goal

abbrev pub invariant-loop-class : goal.invariant-loop-class
invariant-loop-class l =
    record {
      size : length l.lists.items ≡ l._class;
      none : (c : ℕ) → listed l.lists.items c ≡ None;
    }
