use Rattle.std.proofs.Common.{◌<◌, length, arith}
use Rattle.std.proofs.lemmas.Grind.{common_steps}
use Rattle.proof_log.proofs.PieceReading.{set_first_none}
use Rattle.proof_log.proofs.pieces.ranges_of.Goals as goal

pub returns-in_default-clause-bad : goal.returns-in_default-clause-bad
returns-in_default-clause-bad c _ =
    let some : 0 < length c.args.text.now = grind (arith, common_steps) in
    set_first_none c.args.text.now c.split_before.result.0.now c.split_before.result.1.now some c.split_before.ensures c.in_default.ensures.none
