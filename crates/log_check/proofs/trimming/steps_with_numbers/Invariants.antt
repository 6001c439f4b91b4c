use Rattle.std.proofs.Common.{◌≡◌, ◌++◌, drop}
use Rattle.log_check.specs.Trimmed.{steps_renumbered}
use Rattle.log_check.proofs.trimming.steps_with_numbers.Given as goal

abbrev pub invariant-loop-step : goal.invariant-loop-step
invariant-loop-step l = l.items.items ++ steps_renumbered l.numbers (drop l.step-index l.steps) ≡ steps_renumbered l.numbers l.steps
