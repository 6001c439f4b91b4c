use Rattle.std.proofs.Common.{◌≡◌, ◌++◌, map}
use Rattle.view_plan.specs.Words.{lacking}
use Rattle.view_plan.proofs.sets.lacking.Given as goal

-- what is listed and what is left to list are all
abbrev pub invariant-loop-word : goal.invariant-loop-word
invariant-loop-word l =
    map (λ k. k.now) l.list.items
    ++ lacking (map (λ k. k.now) l.word-iterator) (map (λ k. k.now) l.other.keys)
    ≡ lacking (map (λ k. k.now) l.words.keys) (map (λ k. k.now) l.other.keys)
