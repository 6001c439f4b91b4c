use Rattle.std.proofs.Common.{◌≡◌, ◌++◌, drop}
use Rattle.ground_form.specs.Bounds.{singles}
use Rattle.engine_tests.proofs.meaning.single_boxes.Given as goal

-- with the boxes of what is left they are those of all
abbrev pub invariant-loop-v : goal.invariant-loop-v
invariant-loop-v l = l.boxes.items ++ singles (drop l.v-index l.values) ≡ singles l.values
