use Rattle.std.proofs.Common.{arith}
use Rattle.decimal_text.proofs.Digits.{one_number}
use Rattle.proof_log.proofs.numbers.small_number_of.Goals as goal

pub returns-then-n-clause-none : goal.returns-then-n-clause-none
returns-then-n-clause-none c n h e = let same = one_number c.args.text.now c.in_ok-n.n n (omega arith) (omega arith) c.in_ok-n.ensures.some e in absurd (omega arith)
