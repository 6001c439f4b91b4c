use Rattle.proof_log.proofs.LineReading.{no_clause}
use Rattle.proof_log.proofs.reading.clause_of.Goals as goal

pub returns-clause-bad : goal.returns-clause-bad
returns-clause-bad c _ =
    no_clause c.args.texts.now c.in_ok-literals.literals.items c.in_ok-literals.ensures.right c.in_ok-literals.ensures.ok (λ h. let wrong = c.in-Err.ensures.variant.1 h in cc)
