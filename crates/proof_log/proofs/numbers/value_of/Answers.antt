use Rattle.std.proofs.Common.{◌-◌, drop, take, length, arith, length-drop}
use Rattle.std.proofs.lemmas.List.{take_all}
use Rattle.proof_log.proofs.Digits.{value_below}
use Rattle.proof_log.proofs.numbers.value_of.Goals as goal

pub returns-then-has_sign-clause-none : goal.returns-then-has_sign-clause-none
returns-then-has_sign-clause-none c =
    let text = c.args.text.now in
    value_below text (take (length text - 1) (drop 1 text)) c.value_below_zero.result (c.has_sign.ensures.0 c.if-has_sign.true)
    (take_all (length text - 1) (drop 1 text) (omega (arith, length-drop 1 text))) c.value_below_zero.ensures.none
