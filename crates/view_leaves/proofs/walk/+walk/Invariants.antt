use Rattle.std.proofs.Common.{◌≡◌, ◌++◌, drop, map, List}
use Rattle.std.specs.List.Sorted.{IsStrictlySortedBy}
use Rattle.std.specs.Map.{keys_of}
use Rattle.std.specs.String.{string_cmp}
use Rattle.serde_json.specs.View.{items_view, members_view}
use Rattle.view_leaves.specs.Leaves.{item_leaves, member_leaves, AreInOrder, MembersInOrder}
use Rattle.view_leaves.specs.Views.{step_seen, leaves_seen}
use Rattle.view_leaves.proofs.walk.+walk.Given as goal

-- what is listed and the leaves of what is left are the leaves of all
abbrev pub invariant-push_items-loop-number : goal.invariant-push_items-loop-number
invariant-push_items-loop-number l =
    (leaves_seen l.leaves.items
    ++ item_leaves (map step_seen l.initial.path.items) l.number (items_view (drop l.number l.items.items))
    ≡ leaves_seen l.initial.leaves.items
    ++ item_leaves (map step_seen l.initial.path.items) 0 (items_view l.items.items))
    × (l.path.items ≡ l.initial.path.items)
    × (AreInOrder (items_view (drop l.number l.items.items)) → AreInOrder (items_view l.items.items))

abbrev pub invariant-push_members-loop-key : goal.invariant-push_members-loop-key
invariant-push_members-loop-key l =
    (leaves_seen l.leaves.items
    ++ member_leaves (map step_seen l.initial.path.items) (members_view l.key-iterator)
    ≡ leaves_seen l.initial.leaves.items
    ++ member_leaves (map step_seen l.initial.path.items) (members_view l.members.entries))
    × (l.path.items ≡ l.initial.path.items)
    × (MembersInOrder (members_view l.key-iterator) → MembersInOrder (members_view l.members.entries))
    × IsStrictlySortedBy string_cmp (keys_of l.key-iterator)
