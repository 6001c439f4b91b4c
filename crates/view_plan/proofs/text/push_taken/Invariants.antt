use Rattle.std.proofs.Common.{◌≡◌, ◌++◌, drop, map}
use Rattle.std.specs.List.{flat_map}
use Rattle.view_plan.specs.Text.{taken_text}
use Rattle.view_plan.proofs.text.push_taken.Given as goal

-- what is written and what is left to write are all
abbrev pub invariant-loop-word : goal.invariant-loop-word
invariant-loop-word l =
    l.text.items ++ flat_map taken_text (map (λ w. w.now) (drop l.word-index l.words))
    ≡ l.initial.text.items ++ flat_map taken_text (map (λ w. w.now) l.words)
