use Rattle.std.proofs.Common.{◌≡◌, ap, Err}
use Rattle.std.proofs.lemmas.Result.{err_from_is_err_and}
use Rattle.log_file.specs.declared.reading.FileCheck.TheVariants.{TooLong, Rejected}
use Rattle.log_file.proofs.FileFronts.{taken_on, taken_to_limit, refused_in_limit}
use Rattle.log_file.proofs.reading.feed_piece.Goals as goal

pub returns-in_err-feed_within-clause-long_taken : goal.returns-in_err-feed_within-clause-long_taken
returns-in_err-feed_within-clause-long_taken g c = λ is.
    let e = c.from_residual-in_err-feed_within in
    let p = err_from_is_err_and e.result e.ensures.1 in
    let h = rw (p.1, p.2) at is in
    let same : c.in_err-feed_within.field-0.0 ≡ TooLong = cc in
    let w = c.in_err-feed_within.ensures in
    taken_to_limit (g.D.Desk.files c.args.desk.now) c.args.name.now c.read.new.buf
    c.args.c.now.ground c.args.done c.in_ok-n.n c.args.limit c.args.c.now.left
    c.feed_within.new.c.left c.requires.within c.in_ok-n.ensures.bytes (w.long (ap Err same))
    (w.long_taken (ap Err same))

pub returns-in_err-feed_within-clause-rejected : goal.returns-in_err-feed_within-clause-rejected
returns-in_err-feed_within-clause-rejected g c = λ line is.
    let e = c.from_residual-in_err-feed_within in
    let p = err_from_is_err_and e.result e.ensures.1 in
    let h = rw (p.1, p.2) at is in
    let same : c.in_err-feed_within.field-0.0 ≡ Rejected line = cc in
    refused_in_limit (g.D.Desk.files c.args.desk.now) c.args.name.now c.read.new.buf
    c.args.c.now.ground c.args.done c.in_ok-n.n c.args.limit line c.args.c.now.left
    c.requires.within c.in_ok-n.ensures.bytes
    (c.in_err-feed_within.ensures.rejected line (ap Err same))

pub returns-clause-taken : goal.returns-clause-taken
returns-clause-taken g c =
    taken_on (g.D.Desk.files c.args.desk.now) c.args.name.now c.read.new.buf
    c.args.c.now.ground c.args.done c.in_ok-n.n c.args.c.now.left c.feed_within.new.c.left
    c.in_ok-n.ensures.bytes c.in_ok-feed_within.ensures.taken
