use Rattle.std.proofs.Common.{sym, subst, IsSome}
use Rattle.std.proofs.lemmas.Result.{err_from_is_err_and}
use Rattle.signed_clause.specs.Ranges.{IsValid}
use Rattle.proof_log.proofs.PieceReading.{set_none, no_set, same_error}
use Rattle.proof_log.proofs.pieces.set_of.Goals as goal

pub returns-in_err-ranges-clause-bad : goal.returns-in_err-ranges-clause-bad
returns-in_err-ranges-clause-bad c =
    let p = err_from_is_err_and c.from_residual.result c.from_residual.ensures.1 in
    rw (p.1, p.2) (λ b. set_none c.args.text.now (c.in_err-ranges.ensures.bad (same_error _ _ b)))

pub returns-clause-bad : goal.returns-clause-bad
returns-clause-bad c _ =
    no_set c.args.text.now c.in_ok-ranges.ranges.items c.in_ok-ranges.ensures.right c.in_ok-ranges.ensures.ok
    (λ h. let wrong = subst IsSome c.in-None.is (c.in_ok-set.ensures.variant.1 (subst IsValid (sym c.as_slice.ensures.value) h)) in cc)
