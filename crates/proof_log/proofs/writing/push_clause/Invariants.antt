use Rattle.std.proofs.Common.{◌≡◌, ◌++◌, drop, map}
use Rattle.proof_log.specs.Spelling.{behind, literal_text}
use Rattle.proof_log.proofs.writing.push_clause.Given as goal

abbrev pub invariant-loop-l : goal.invariant-loop-l
invariant-loop-l l = l.out.items ++ behind 32 (map literal_text (drop l.l-index l.literals)) ≡ l.initial.out.items ++ behind 32 (map literal_text l.literals)
