use Rattle.std.proofs.Common.{◌≡◌, drop}
use Rattle.kept_clauses.specs.Kept.{steps_rest}
use Rattle.kept_clauses.proofs.kept.steps_rest.Given as goal

abbrev pub invariant-loop-step : goal.invariant-loop-step
invariant-loop-step l =
    steps_rest l.marks (drop l.step-index l.steps) ≡ steps_rest l.marks l.steps
