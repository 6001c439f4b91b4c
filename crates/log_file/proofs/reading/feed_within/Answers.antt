use Rattle.std.proofs.Common.{◌≡◌}
use Rattle.std.proofs.lemmas.List.{take_all}
use Rattle.std.proofs.lemmas.Result.{err_from_is_err_and}
use Rattle.log_file.specs.Fronts.{check_cause}
use Rattle.log_file.specs.declared.reading.FileCheck.TheVariants.{Rejected}
use Rattle.log_file.proofs.FileFronts.{refused_at}
use Rattle.log_file.proofs.reading.feed_within.Goals as goal

pub returns-in_err-feed-clause-rejected : goal.returns-in_err-feed-clause-rejected
returns-in_err-feed-clause-rejected c = λ line is bytes taken.
    let p = err_from_is_err_and c.from_residual.result c.from_residual.ensures.1 in
    let h = rw (p.1, p.2) at is in
    let same : check_cause c.in_err-feed.field-0.0 ≡ Rejected line = cc in
    let all = take_all c.args.room c.args.piece.now c.if-piece-room.true in
    let refused = c.in_err-feed.ensures.refused c.requires.unrefused bytes taken in
    rw all (refused_at c.args.c.now.ground _ c.in_err-feed.field-0.0 line same refused)

pub returns-in_err-feed-2-clause-rejected : goal.returns-in_err-feed-2-clause-rejected
returns-in_err-feed-2-clause-rejected c = λ line is bytes taken.
    let e = c.from_residual-in_err-feed-2 in
    let p = err_from_is_err_and e.result e.ensures.1 in
    let h = rw (p.1, p.2) at is in
    let same : check_cause c.in_err-feed-2.field-0.0 ≡ Rejected line = cc in
    refused_at c.args.c.now.ground _ c.in_err-feed-2.field-0.0 line same
    (c.in_err-feed-2.ensures.refused c.requires.unrefused bytes taken)
