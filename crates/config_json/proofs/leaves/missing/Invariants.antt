use Rattle.std.proofs.Common.{◌≡◌, drop}
use Rattle.serde_json.specs.View.{view}
use Rattle.config_json.specs.Former.{first_missing}
use Rattle.config_json.proofs.leaves.missing.Given as goal

-- the first among the leaves that are left is the first of all
abbrev pub invariant-loop-leaf : goal.invariant-loop-leaf
invariant-loop-leaf l =
    first_missing l.objects (view l.json) (drop l.leaf-index l.leaf-items)
    ≡ first_missing l.objects (view l.json) l.leaf-items
