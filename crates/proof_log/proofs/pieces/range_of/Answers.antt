use Rattle.std.proofs.Common.{◌<◌, length, arith, rules, SFits, w64}
use Rattle.std.proofs.lemmas.Int.{to_z-of_z}
use Rattle.std.proofs.lemmas.Grind.{common_steps}
use Rattle.proof_log.proofs.PieceReading.{range_first_none, range_last, none_of}
use Rattle.proof_log.proofs.pieces.range_of.Goals as goal

pub returns-in_err-low-clause-none : goal.returns-in_err-low-clause-none
returns-in_err-low-clause-none c =
    none_of c.from_residual.result _ c.from_residual.ensures (range_first_none c.args.text.now c.split_before.result.0.now c.split_before.result.1.now c.split_before.ensures c.in_err-low.ensures.none)

pub returns-clause-none : goal.returns-clause-none
returns-clause-none c =
    let fits : SFits w64 c.in_ok-low.low = search rules in
    let rest : 0 < length c.split_before.result.1.now = grind (arith, common_steps) in
    range_last c.args.text.now c.split_before.result.0.now c.split_before.result.1.now c.in_ok-low.low c.range_to.result c.split_before.ensures c.in_ok-low.ensures.some rest (simp to_z-of_z at c.range_to.ensures.none)
