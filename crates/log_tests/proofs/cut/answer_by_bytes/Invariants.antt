use Rattle.std.proofs.Common.{◌≡◌}
use Rattle.log_tests.proofs.cut.answer_by_bytes.Given as goal

abbrev pub invariant-loop-k : goal.invariant-loop-k
invariant-loop-k l = l.checker.fed ≡ l.k
