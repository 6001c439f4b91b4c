use Rattle.std.proofs.Common.{◌≡◌, ◌+◌, ◌++◌, length}
use Rattle.std.specs.Prelude.{replicate}
use Rattle.object_alloc.proofs.queue.push_many.Given as goal

-- so many were added
abbrev pub invariant-loop : goal.invariant-loop
invariant-loop l =
    record {
      queue : l.queue.items ≡ l.initial.queue.items ++ replicate l.counter l.kind;
      count : length l.queue.items ≡ length l.initial.queue.items + l.counter;
    }
