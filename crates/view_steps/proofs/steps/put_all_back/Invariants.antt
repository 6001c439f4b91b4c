use Rattle.std.proofs.Common.{◌≡◌, ℕ, List, Bor, drop}
use Rattle.view_steps.specs.Rooms.{found}
use Rattle.view_steps.specs.Runs.{all_back}
use Rattle.view_steps.proofs.steps.put_all_back.Given as goal

-- the moves that are left, from here, give what all give
abbrev pub invariant-loop-step : goal.invariant-loop-step
invariant-loop-step l =
    (w : Bor (List ℕ))
    → all_back (drop l.step-index l.moves) w.now (found l.rooms.entries w.now)
    ≡ all_back l.moves w.now (found l.initial.rooms.entries w.now)
