use Rattle.std.proofs.Common.{◌≡◌, ◌++◌, drop, map}
use Rattle.std.specs.List.{flat_map}
use Rattle.view_leaves.specs.Spelling.{step_text}
use Rattle.view_leaves.specs.Views.{step_seen}
use Rattle.view_leaves.proofs.spelling.push_steps.Given as goal

-- what is written and what is left to write are all
abbrev pub invariant-loop-step : goal.invariant-loop-step
invariant-loop-step l =
    l.text.items ++ flat_map step_text (map step_seen (drop l.step-index l.steps))
    ≡ l.initial.text.items ++ flat_map step_text (map step_seen l.steps)
