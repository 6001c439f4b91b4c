use Rattle.proof_log.proofs.LineReading.{word_none}
use Rattle.proof_log.proofs.reading.spelled_line.Goals as goal

pub returns-in_default-clause-bad : goal.returns-in_default-clause-bad
returns-in_default-clause-bad c _ = word_none c.args.bytes.now c.split_before.result.0.now c.split_before.result.1.now c.split_before.ensures c.in_default.ensures.none
