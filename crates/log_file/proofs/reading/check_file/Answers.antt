use Rattle.std.proofs.Common.{◌≡◌, ap, Err}
use Rattle.std.proofs.lemmas.Result.{err_from_is_err_and}
use Rattle.log_file.specs.declared.reading.FileCheck.TheVariants.{Rejected}
use Rattle.log_file.proofs.WholeFile.{front_refused}
use Rattle.log_file.proofs.reading.check_file.Goals as goal

pub returns-in_err-n-clause-rejected : goal.returns-in_err-n-clause-rejected
returns-in_err-n-clause-rejected g c = λ line is.
    let i = c.loop-buffer.invariant in
    let e = c.from_residual-in_err-n in
    let p = err_from_is_err_and e.result e.ensures.1 in
    let h = rw (p.1, p.2) at is in
    let same : c.in_err-n.field-0.0 ≡ Rejected line = cc in
    front_refused (g.D.Desk.files c.args.desk.now) (g.D.Desk.files c.loop-buffer.desk)
    c.args.name.now c.args.c.now.ground c.loop-buffer.c.ground c.loop-buffer.done c.args.limit
    line c.loop-buffer.c.left i.files i.ground i.taken
    (c.in_err-n.ensures.rejected line (ap Err same))
