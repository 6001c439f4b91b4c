use Rattle.std.proofs.Common.{◌≡◌, drop, length}
use Rattle.running_clause.specs.Running.{listed}
use Rattle.log_form.specs.Acceptance.{chain_holds, chain_end}
use Rattle.log_check.proofs.chains.replays.Given as goal

abbrev pub invariant-loop-step : goal.invariant-loop-step
invariant-loop-step l =
    let first = listed 0 l.initial.running in
    let now = listed 0 l.running in
    let rest = drop l.step-index l.steps in
    record {
      holds : chain_holds l.clauses now rest ≡ chain_holds l.clauses first l.steps;
      ends : chain_end l.clauses now rest ≡ chain_end l.clauses first l.steps;
      len : length l.running ≡ length l.initial.running;
    }
