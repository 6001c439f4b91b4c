use Rattle.std.proofs.Common.{◌≡◌}
use Rattle.serde_json.specs.View.{members_view}
use Rattle.view_leaves.specs.Leaves.{has_parts}
use Rattle.view_leaves.proofs.leaf.has_parts.Given as goal

-- what is left decides
abbrev pub invariant-loop-key : goal.invariant-loop-key
invariant-loop-key l =
    has_parts (members_view l.key-iterator) ≡ has_parts (members_view l.members.entries)
