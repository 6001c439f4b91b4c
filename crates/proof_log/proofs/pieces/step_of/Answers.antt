use Rattle.proof_log.proofs.PieceReading.{step_first_none, step_last_none, none_of}
use Rattle.proof_log.proofs.pieces.step_of.Goals as goal

pub returns-in_err-x-clause-none : goal.returns-in_err-x-clause-none
returns-in_err-x-clause-none c =
    none_of c.from_residual.result _ c.from_residual.ensures (step_first_none c.args.text.now c.split_before.result.0.now c.split_before.result.1.now c.split_before.ensures c.in_err-x.ensures.none)

pub returns-in_err-number_of-clause-none : goal.returns-in_err-number_of-clause-none
returns-in_err-number_of-clause-none c =
    none_of c.from_residual-in_err-number_of.result _ c.from_residual-in_err-number_of.ensures
    (step_last_none c.args.text.now c.split_before.result.0.now c.split_before.result.1.now c.in_ok-number.number.now c.split_before.ensures c.in_ok-number.ensures.some c.in_err-number_of.ensures.none)
