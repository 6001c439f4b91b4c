use Rattle.std.proofs.Common.{◌≡◌, drop, map}
use Rattle.view_leaves.specs.Views.{leaves_seen}
use Rattle.view_picture.specs.Named.{has_attribute}
use Rattle.view_picture.proofs.named.has_attribute.Given as goal

-- what is left decides
abbrev pub invariant-loop-leaf : goal.invariant-loop-leaf
invariant-loop-leaf l =
    has_attribute l.attribute (leaves_seen (drop l.leaf-index l.leaves))
    ≡ has_attribute l.attribute (leaves_seen l.leaves)
