use Rattle.std.proofs.Common.{◌≡◌, ◌<◌, ℕ, None}
use Rattle.class_table.specs.Paths.{ArePaths, path_of}
use Rattle.class_table.proofs.paths.paths_of.Given as goal

-- each class that was met has a path
abbrev pub invariant-loop-class : goal.invariant-loop-class
invariant-loop-class l =
    record {
      paths : ArePaths l.classes l.order l.paths.all.items l.paths.on.items;
      met : (c : ℕ) → c < l.class → path_of l.paths.on.items c ≡ None → ⊥;
    }
