use Rattle.std.proofs.Common.{◌≡◌, ◌++◌}
use Rattle.std.specs.List.{AllByRecursion}
use Rattle.signed_clause.specs.Ranges.{IsValid}
use Rattle.numbered_clauses.specs.Coded.{literals_at}
use Rattle.numbered_clauses.proofs.packed_reading.read_literals.Given as goal

abbrev pub invariant-loop-more : goal.invariant-loop-more
invariant-loop-more l = record {
  literals : l.out.items ++ literals_at l.more l.left ≡ literals_at l.count l.text;
  valid : AllByRecursion (λ x. IsValid x.1) (literals_at l.more l.left);
}

abbrev pub decreases-loop-more : goal.decreases-loop-more
decreases-loop-more l = l.more
