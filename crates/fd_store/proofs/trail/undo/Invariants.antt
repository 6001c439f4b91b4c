use Rattle.std.proofs.Common.{◌≡◌, length, reverse}
use Rattle.fd_store.specs.Undo.{dropped}
use Rattle.fd_store.specs.Trails.{stack_of, IsStore}
use Rattle.fd_store.proofs.trail.undo.Given as goal

abbrev pub invariant-loop-boxes : goal.invariant-loop-boxes
invariant-loop-boxes l = record {
  kept : IsStore l.boxes.items (reverse l.trail.items);
  levels : dropped l.level (stack_of l.boxes.items (reverse l.trail.items))
      ≡ dropped l.level (stack_of l.initial.boxes.items (reverse l.initial.trail.items));
}

abbrev pub decreases-loop-boxes : goal.decreases-loop-boxes
decreases-loop-boxes l = length l.trail.items
