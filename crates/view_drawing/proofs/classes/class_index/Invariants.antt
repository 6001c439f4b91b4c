use Rattle.std.proofs.Common.{◌≡◌, ◌+◌, drop, map}
use Rattle.view_drawing.specs.Classes.{class_index}
use Rattle.view_drawing.proofs.classes.class_index.Given as goal

-- the classes that were passed, and the index among those that are left
abbrev pub invariant-loop-index : goal.invariant-loop-index
invariant-loop-index l =
    class_index (map (λ w. w.now) l.classes) l.class
    ≡ l.index + class_index (map (λ w. w.now) (drop l.index l.classes)) l.class
