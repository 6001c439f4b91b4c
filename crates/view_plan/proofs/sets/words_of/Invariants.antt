use Rattle.std.proofs.Common.{◌≡◌, [], drop, map}
use Rattle.serde_json.specs.View.{items_view}
use Rattle.view_plan.specs.Words.{words_of}
use Rattle.view_plan.proofs.sets.words_of.Given as goal

-- the words so far and those of what is left are all
abbrev pub invariant-loop-item : goal.invariant-loop-item
invariant-loop-item l =
    words_of (map (λ k. k.now) l.words.keys) (items_view (drop l.item-index l.items))
    ≡ words_of [] (items_view l.items)
