-- Paths and leaves of the program, as what they stand for.
use Rattle.std.specs.Prelude.{List, map}
use Rattle.serde_json.specs.View.{view}
use Rattle.view_leaves.specs.declared.leaf.Leaf.{Leaf}
use Rattle.view_leaves.specs.declared.path.Step.{Step}
use Rattle.view_leaves.specs.declared.path.Step.TheVariants as step
use Rattle.view_leaves.specs.Leaves.{PathLeaf}
use Rattle.view_leaves.specs.Paths.{PathStep, Path, index, key}

abbrev pub step_seen : Step → PathStep
step_seen (step.Index n) = index n
step_seen (step.Key k) = key k.now

abbrev pub leaf_seen : Leaf → PathLeaf
leaf_seen l = (map step_seen l.path.items, view l.value.now)

abbrev pub leaves_seen : List Leaf → List PathLeaf
leaves_seen ls = map leaf_seen ls
