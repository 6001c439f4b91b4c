use Rattle.std.proofs.lemmas.Result.{err_from_is_err_and}
use Rattle.proof_log.proofs.PieceReading.{same_error}
use Rattle.proof_log.proofs.LineReading.{axiom_bad}
use Rattle.proof_log.proofs.reading.axiom_of.Goals as goal

pub returns-in_err-clause_of-clause-bad : goal.returns-in_err-clause_of-clause-bad
returns-in_err-clause_of-clause-bad c =
    let p = err_from_is_err_and c.from_residual.result c.from_residual.ensures.1 in
    rw (p.1, p.2) (λ b. axiom_bad c.args.texts.now c.in-Some.rest.now c.in-Some.k c.in-Some.ensures.some (c.in_err-clause_of.ensures.bad (same_error _ _ b)))
