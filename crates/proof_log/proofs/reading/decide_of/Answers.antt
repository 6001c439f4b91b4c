use Rattle.std.proofs.Common.{◌<◌, length, arith}
use Rattle.std.proofs.lemmas.Grind.{common_steps}
use Rattle.std.proofs.lemmas.Result.{err_from_is_err_and}
use Rattle.proof_log.proofs.PieceReading.{same_error}
use Rattle.proof_log.proofs.LineReading.{decide_none, decide_short, decide_more, decide_bad}
use Rattle.proof_log.proofs.reading.decide_of.Goals as goal

pub returns-in_default-clause-bad : goal.returns-in_default-clause-bad
returns-in_default-clause-bad c _ = decide_none c.args.texts.now c.in_default.ensures.none

pub returns-in_default-next_part-clause-bad : goal.returns-in_default-next_part-clause-bad
returns-in_default-next_part-clause-bad c _ =
    decide_short c.args.texts.now c.in-Some.rest.now c.in-Some.x c.in-Some.ensures.some c.in_default-next_part.ensures.none

pub returns-then-not-is_empty-clause-bad : goal.returns-then-not-is_empty-clause-bad
returns-then-not-is_empty-clause-bad c _ =
    let some : 0 < length c.in-Some-next_part.after.now = grind (arith, common_steps) in
    decide_more c.args.texts.now c.in-Some.rest.now c.in-Some-next_part.text.now c.in-Some-next_part.after.now c.in-Some.x c.in-Some.ensures.some c.in-Some-next_part.ensures.some some

pub returns-in_err-set_of-clause-bad : goal.returns-in_err-set_of-clause-bad
returns-in_err-set_of-clause-bad c =
    let p = err_from_is_err_and c.from_residual.result c.from_residual.ensures.1 in
    rw (p.1, p.2) (λ b. decide_bad c.args.texts.now c.in-Some.rest.now c.in-Some-next_part.text.now c.in-Some-next_part.after.now c.in-Some.x c.in-Some.ensures.some c.in-Some-next_part.ensures.some (c.in_err-set_of.ensures.bad (same_error _ _ b)))
