use Rattle.proof_log.proofs.LineReading.{spelled_once}
use Rattle.proof_log.proofs.reading.read_line.Goals as goal

pub returns-clause-only : goal.returns-clause-only
returns-clause-only c m h = spelled_once c.args.bytes.now c.in_ok-l.l m c.in_ok-l.ensures.ok h
