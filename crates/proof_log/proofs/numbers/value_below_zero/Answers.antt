use Rattle.std.proofs.Common.{arith}
use Rattle.decimal_text.proofs.Digits.{one_number}
use Rattle.proof_log.proofs.numbers.value_below_zero.Goals as goal

pub returns-then-n-eq0-clause-none : goal.returns-then-n-eq0-clause-none
returns-then-n-eq0-clause-none c n p h e = let same = one_number c.args.digits.now c.in_ok-n.n n (omega arith) (omega arith) c.in_ok-n.ensures.some e in absurd (omega arith)
