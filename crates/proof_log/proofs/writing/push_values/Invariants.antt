use Rattle.std.proofs.Common.{◌≡◌, ◌++◌, drop, map}
use Rattle.std.specs.Fmt.{signed_decimal}
use Rattle.proof_log.specs.Spelling.{behind}
use Rattle.proof_log.proofs.writing.push_values.Given as goal

abbrev pub invariant-loop-v : goal.invariant-loop-v
invariant-loop-v l = l.out.items ++ behind 32 (map signed_decimal (drop l.v-index l.values)) ≡ l.initial.out.items ++ behind 32 (map signed_decimal l.values)
