use Rattle.std.proofs.Common.{◌≡◌, drop, map}
use Rattle.view_steps.specs.Moves.{are_plain}
use Rattle.view_steps.specs.Views.{move_line}
use Rattle.view_steps.proofs.moves.are_plain.Given as goal

-- what is left decides
abbrev pub invariant-loop-step : goal.invariant-loop-step
invariant-loop-step l =
    are_plain (map move_line (drop l.step-index l.moves)) ≡ are_plain (map move_line l.moves)
