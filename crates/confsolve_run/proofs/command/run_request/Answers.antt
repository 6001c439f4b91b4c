use Rattle.proof_log.specs.Rounds.{Journal}
use Rattle.std.proofs.Common.{ap, ◌≡◌, ◌≤◌, ℕ, List, length, map, subst, sym}
use Rattle.model_limits.specs.Limits.{model_bytes}
use Rattle.run_promise.specs.Asking.{OfText}
use Rattle.run_promise.specs.Delivery.{outside}
use Rattle.confsolve_run.proofs.PresentRound.{empty_lines, other_problem}
use Rattle.confsolve_run.proofs.Endings.{run_ends, denied_from}
use Rattle.confsolve_run.proofs.RunLaws.{stands_read}
use Rattle.confsolve_run.proofs.command.run_request.Goals as goal

pub returns-in-Ok-clause-ends : goal.returns-in-Ok-clause-ends
returns-in-Ok-clause-ends g c =
    let e = c.in-Ok.ensures in
    let before = c.args.desk.now in
    let mid = c.text_of.new.desk in
    let now = c.run_text.new.desk in
    let files = g.D.Desk.files in
    let printed = g.D.Desk.printed in
    let reads = g.D.Desk.read_faults in
    let writes = g.D.Desk.write_faults in
    let text = c.deref.result.now in
    let read = subst (λ (x : List ℕ). OfText (files before) c.args.request.now (λ bytes. bytes ≡ x)) (sym c.deref.ensures.value) e.text in
    run_ends c.args.request.now (map (λ x. x.order) c.args.with.choosers.now) c.run_text.new.journal (files before) (files mid) (printed before) (printed mid) (outside (files now) (printed now)) (reads before) (reads mid) (reads now) (writes before) (writes mid) (writes now) text c.run_text.result
    e.files e.printed e.write_faults e.read_faults read c.run_text.ensures.ends

pub returns-in-Ok-clause-stands : goal.returns-in-Ok-clause-stands
returns-in-Ok-clause-stands g c =
    let e = c.in-Ok.ensures in
    let told = g.D.Desk.files c.args.desk.now in
    let read = subst (λ (x : List ℕ). OfText told c.args.request.now (λ bytes. bytes ≡ x)) (sym c.deref.ensures.value) e.text in
    let short = subst (λ (x : List ℕ). length x ≤ model_bytes) (sym c.deref.ensures.value) e.short in
    λ text s is h. stands_read told c.args.request.now c.deref.result.now text s c.run_text.result is read short c.run_text.ensures.stands h

pub returns-in-Err-clause-ends : goal.returns-in-Err-clause-ends
returns-in-Err-clause-ends g c =
    let e = c.in-Err.ensures in
    let before = c.args.desk.now in
    let now = c.text_of.new.desk in
    let files = g.D.Desk.files in
    let printed = g.D.Desk.printed in
    let reads = g.D.Desk.read_faults in
    let writes = g.D.Desk.write_faults in
    denied_from c.args.request.now (map (λ x. x.order) c.args.with.choosers.now) c.args.journal.now (files before) (files now) (printed before) (printed now) (reads before) (reads now) (writes before) (writes now) c.in-Err.status (ap (λ (j : Journal). j.rounds) c.requires.empty) e.files e.printed e.refused

pub returns-in-Err-clause-lines : goal.returns-in-Err-clause-lines
returns-in-Err-clause-lines g c =
    empty_lines (map (λ x. x.order) c.args.with.choosers.now) c.args.request.now c.args.journal.now
    c.requires.empty

pub returns-in-Err-clause-problem : goal.returns-in-Err-clause-problem
returns-in-Err-clause-problem g c =
    other_problem c.args.request.now c.in-Err.status c.args.journal.now c.in-Err.ensures.other
