use Rattle.std.proofs.Common.{◌≡◌, length, ℕ, None}
use Rattle.object_alloc.specs.Holding.{shapes_of}
use Rattle.object_alloc.proofs.queue.no_holding.Given as goal

abbrev pub invariant-loop-class : goal.invariant-loop-class
invariant-loop-class l =
    record {
      size : length l.lists.items ≡ l._class;
      none : (c : ℕ) → shapes_of l.lists.items c ≡ None;
    }
