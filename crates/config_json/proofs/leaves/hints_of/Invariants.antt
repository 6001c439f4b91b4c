use Rattle.std.proofs.Common.{◌≡◌, ◌++◌, drop}
use Rattle.std.specs.List.{flat_map}
use Rattle.serde_json.specs.View.{view}
use Rattle.config_json.specs.Former.{leaf_hints}
use Rattle.config_json.proofs.leaves.hints_of.Given as goal

-- with the leaves that are left they are the hints for all
abbrev pub invariant-loop-leaf : goal.invariant-loop-leaf
invariant-loop-leaf l =
    l.hints.items ++ flat_map (leaf_hints l.objects (view l.json)) (drop l.leaf-index l.leaf-items)
    ≡ flat_map (leaf_hints l.objects (view l.json)) l.leaf-items
