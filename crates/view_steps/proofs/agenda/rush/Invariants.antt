use Rattle.std.proofs.Common.{option_map}
use Rattle.serde_json.specs.View.{view}
use Rattle.view_steps.specs.Runs.{IsRun}
use Rattle.view_steps.specs.Steps.{Site}
use Rattle.view_steps.proofs.agenda.rush.Given as goal

-- what was so stays so
abbrev pub invariant-loop : goal.invariant-loop
invariant-loop l =
    (site : Site) → IsRun site (option_map (λ v. view v.now) l.stop) l.initial.run
    → IsRun site (option_map (λ v. view v.now) l.stop) l.run
