use Rattle.std.proofs.Common.{◌≡◌, drop}
use Rattle.serde_json.specs.View.{items_view}
use Rattle.view_leaves.specs.Leaves.{all_words}
use Rattle.view_leaves.proofs.leaf.all_words.Given as goal

-- what is left decides
abbrev pub invariant-loop-item : goal.invariant-loop-item
invariant-loop-item l =
    all_words (items_view (drop l.item-index l.items)) ≡ all_words (items_view l.items)
