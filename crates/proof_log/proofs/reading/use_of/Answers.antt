use Rattle.std.proofs.Common.{◌<◌, length, arith}
use Rattle.std.proofs.lemmas.Grind.{common_steps}
use Rattle.proof_log.proofs.LineReading.{use_none, use_more}
use Rattle.proof_log.proofs.reading.use_of.Goals as goal

pub returns-in_default-clause-bad : goal.returns-in_default-clause-bad
returns-in_default-clause-bad c _ = use_none c.args.texts.now c.in_default.ensures.none

pub returns-then-not-is_empty-clause-bad : goal.returns-then-not-is_empty-clause-bad
returns-then-not-is_empty-clause-bad c _ =
    let some : 0 < length c.in-Some.rest.now = grind (arith, common_steps) in
    use_more c.args.texts.now c.in-Some.rest.now c.in-Some.i c.in-Some.ensures.some some
