use Rattle.std.proofs.Common.{◌≡◌, length, ℕ, None}
use Rattle.class_table.specs.Paths.{path_of}
use Rattle.class_table.proofs.paths.no_paths.Given as goal

abbrev pub invariant-loop-class : goal.invariant-loop-class
invariant-loop-class l =
    record {
      size : length l.on.items ≡ l._class;
      none : (c : ℕ) → path_of l.on.items c ≡ None;
    }
