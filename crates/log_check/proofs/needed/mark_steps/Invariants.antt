use Rattle.std.proofs.Common.{◌≡◌, drop}
use Rattle.log_check.specs.Marks.{with_steps}
use Rattle.log_check.proofs.needed.mark_steps.Given as goal

abbrev pub invariant-loop-step : goal.invariant-loop-step
invariant-loop-step l = with_steps (drop l.step-index l.steps) l.marks.items ≡ with_steps l.steps l.initial.marks.items
