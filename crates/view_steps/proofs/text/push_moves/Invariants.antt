use Rattle.std.proofs.Common.{◌≡◌, ◌++◌, drop, false, map}
use Rattle.std.specs.List.{flat_map, list_any}
use Rattle.view_plan.specs.Text.{line_text, shows_fraction}
use Rattle.view_steps.specs.Views.{move_line}
use Rattle.view_steps.proofs.text.push_moves.Given as goal

-- where none shows a fraction, none that is left does, and what is written and what is left to
-- write are all
abbrev pub invariant-loop-step : goal.invariant-loop-step
invariant-loop-step l =
    list_any shows_fraction (map move_line l.moves) ≡ false
    → (list_any shows_fraction (map move_line (drop l.step-index l.moves)) ≡ false)
    × (l.text.items ++ flat_map line_text (map move_line (drop l.step-index l.moves))
    ≡ l.initial.text.items ++ flat_map line_text (map move_line l.moves))
