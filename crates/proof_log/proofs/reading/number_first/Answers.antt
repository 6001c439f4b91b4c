use Rattle.std.proofs.Common.{arith}
use Rattle.proof_log.proofs.PieceReading.{none_of}
use Rattle.proof_log.proofs.LineReading.{first_none}
use Rattle.proof_log.proofs.reading.number_first.Goals as goal

pub returns-in_err-number_of-clause-none : goal.returns-in_err-number_of-clause-none
returns-in_err-number_of-clause-none c =
    none_of c.from_residual-in_err-number_of.result _ c.from_residual-in_err-number_of.ensures
    (λ n ps h e. first_none c.args.texts.now c.in_ok-text.text.now c.in_ok-text.rest.now n ps c.in_ok-text.ensures.some (omega arith) (c.in_err-number_of.ensures.none n h) e)
