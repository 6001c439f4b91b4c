use Rattle.std.proofs.Common.{sym, ◌∙◌}
use Rattle.std.proofs.lemmas.Result.{err_from_is_err_and}
use Rattle.proof_log.proofs.PieceReading.{literal_first_none, literal_set_none, literal_empty_none, same_error}
use Rattle.proof_log.proofs.pieces.literal_of.Goals as goal

pub returns-in_default-clause-bad : goal.returns-in_default-clause-bad
returns-in_default-clause-bad c _ =
    literal_first_none c.args.text.now c.split_before.result.0.now c.split_before.result.1.now c.split_before.ensures c.in_default.ensures.none

pub returns-in_err-set-clause-bad : goal.returns-in_err-set-clause-bad
returns-in_err-set-clause-bad c =
    let p = err_from_is_err_and c.from_residual.result c.from_residual.ensures.1 in
    rw (p.1, p.2) (λ b. literal_set_none c.args.text.now c.split_before.result.0.now c.split_before.result.1.now c.in-Some-behind_separator.ranges.now c.split_before.ensures c.in-Some-behind_separator.ensures.some (c.in_err-set.ensures.bad (same_error _ _ b)))

pub returns-then-is_empty-clause-bad : goal.returns-then-is_empty-clause-bad
returns-then-is_empty-clause-bad c _ =
    literal_empty_none c.args.text.now c.split_before.result.0.now c.split_before.result.1.now c.in-Some-behind_separator.ranges.now _ c.split_before.ensures c.in-Some-behind_separator.ensures.some c.in_ok-set.ensures.ok
    (sym c.is_empty.ensures.list ∙ c.if-is_empty.true)
