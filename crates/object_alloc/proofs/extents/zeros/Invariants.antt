use Rattle.std.proofs.Common.{◌≡◌, ℕ, length}
use Rattle.std.specs.Prelude.{slice_index}
use Rattle.object_alloc.proofs.extents.zeros.Given as goal

abbrev pub invariant-loop-class : goal.invariant-loop-class
invariant-loop-class l =
    record {
      count : length l.sizes.items ≡ l._class;
      zeros : (c : ℕ) → slice_index l.sizes.items c ≡ 0;
    }
