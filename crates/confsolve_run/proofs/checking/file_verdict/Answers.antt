use Rattle.std.proofs.Common.{List, Err, ap, sym, subst, ℕ}
use Rattle.desk_io.specs.Desk.{OfFile}
use Rattle.log_check.specs.Fed.{IsLogOf}
use Rattle.run_status.specs.declared.status.Status.TheVariants as status
use Rattle.run_promise.specs.Refusal.{IsUnfit}
use Rattle.round_commands.specs.Unreadable.{Unreadable}
use Rattle.confsolve_run.proofs.LogFiles.{file_refused, rest_refused, log_of}
use Rattle.confsolve_run.proofs.checking.file_verdict.Goals as goal

pub returns-in-Err-clause-refused : goal.returns-in-Err-clause-refused
returns-in-Err-clause-refused g c =
    let told = g.D.Desk.files c.args.desk.now in
    let reads = g.D.Desk.read_faults c.args.desk.now in
    let reads_now = g.D.Desk.read_faults c.check_file.new.desk in
    let e = c.in-Err.ensures in
    subst (λ (name : List ℕ). Unreadable reads reads_now c.refused_file.result (OfFile told name (λ bytes. IsUnfit bytes c.refused_file.result c.args.g.now))) c.as_str.ensures.bytes
    (subst (λ s. Unreadable reads reads_now s (OfFile told c.as_str.result.now (λ bytes. IsUnfit bytes s c.args.g.now))) (sym c.refused_file.ensures)
    (file_refused told c.as_str.result.now c.args.g.now c.in_ok-checker.checker.ground c.in_ok-checker.ensures.ground c.check_file.new.c.left reads reads_now c.in-Err.error (λ is. e.fault (ap Err is)) (λ is. e.long (ap Err is)) (λ is. e.long_taken (ap Err is)) (λ line is. e.rejected line (ap Err is))))

pub returns-in-Ok-finish-clause-log : goal.returns-in-Ok-finish-clause-log
returns-in-Ok-finish-clause-log g c =
    let told = g.D.Desk.files c.args.desk.now in
    subst (λ (name : List ℕ). OfFile told name (λ bytes. IsLogOf c.args.g.now bytes c.in-Ok-finish.verdict)) c.as_str.ensures.bytes
    (log_of told c.as_str.result.now c.args.g.now c.in_ok-checker.checker.ground c.in_ok-checker.ensures.ground c.check_file.new.c.left 0 0 c.check_file.new.c.ground c.in-Ok-finish.verdict c.in-Ok.ensures.ground c.in-Ok.ensures.taken c.in-Ok-finish.ensures.verdict)

pub returns-in-Err-Rejected-clause-refused : goal.returns-in-Err-Rejected-clause-refused
returns-in-Err-Rejected-clause-refused g c =
    let told = g.D.Desk.files c.args.desk.now in
    let reads = g.D.Desk.read_faults c.args.desk.now in
    let reads_now = g.D.Desk.read_faults c.check_file.new.desk in
    let line = c.in-Err-Rejected.line in
    let h = c.in-Err-Rejected.ensures.refused c.in-Ok.ensures.unrefused in
    subst (λ (name : List ℕ). Unreadable reads reads_now (status.Rejected line) (OfFile told name (λ bytes. IsUnfit bytes (status.Rejected line) c.args.g.now))) c.as_str.ensures.bytes
    (rest_refused told c.as_str.result.now c.args.g.now c.in_ok-checker.checker.ground c.in_ok-checker.ensures.ground c.check_file.new.c.left reads reads_now c.in-Err-Rejected.field-0 c.check_file.new.c.fed line c.in-Err-Rejected.field-0-is h.0 h.1 c.in-Ok.ensures.whole c.in-Ok.ensures.within c.in-Ok.ensures.taken)
