use Rattle.std.proofs.Common.{◌≡◌, ◌++◌, drop}
use Rattle.std.specs.List.{AllByRecursion}
use Rattle.numbered_clauses.specs.Coded.{literals_bytes, FitsLiteral}
use Rattle.numbered_clauses.proofs.packed_writing.push_literals.Given as goal

abbrev pub invariant-loop-l : goal.invariant-loop-l
invariant-loop-l l = record {
  bytes : l.out.items ++ literals_bytes (drop l.l-index l.literals) ≡ l.initial.out.items ++ literals_bytes l.literals;
  fits : AllByRecursion FitsLiteral (drop l.l-index l.literals) → AllByRecursion FitsLiteral l.literals;
}
