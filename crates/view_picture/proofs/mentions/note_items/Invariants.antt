use Rattle.std.proofs.Common.{◌≡◌, ℕ, List, Bor, drop, if◌then◌else◌}
use Rattle.serde_json.specs.View.{items_view}
use Rattle.view_picture.specs.Mentioned.{mention_seen, mentioned, with_mention}
use Rattle.view_picture.specs.Mentions.{has_item}
use Rattle.view_picture.proofs.mentions.note_items.Given as goal

-- what is noted, with the words of what is left, is that of all
abbrev pub invariant-loop-item : goal.invariant-loop-item
invariant-loop-item l =
    (w : Bor (List ℕ))
    → (if has_item w.now (items_view (drop l.item-index l.items))
    then with_mention (mentioned l.mentions.entries w) (mention_seen l.mention)
    else mentioned l.mentions.entries w)
    ≡ (if has_item w.now (items_view l.items)
    then with_mention (mentioned l.initial.mentions.entries w) (mention_seen l.mention)
    else mentioned l.initial.mentions.entries w)
