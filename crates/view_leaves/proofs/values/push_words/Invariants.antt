use Rattle.std.proofs.Common.{◌≡◌, ◌++◌, drop, false}
use Rattle.serde_json.specs.View.{items_view}
use Rattle.view_leaves.specs.Spelling.{words_text}
use Rattle.view_leaves.proofs.values.push_words.Given as goal

-- what is written and what is left to write are all
abbrev pub invariant-loop-item : goal.invariant-loop-item
invariant-loop-item l =
    l.text.items ++ words_text l.later (items_view (drop l.item-index l.items))
    ≡ l.initial.text.items ++ words_text false (items_view l.items)
