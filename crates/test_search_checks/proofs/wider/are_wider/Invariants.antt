use Rattle.std.proofs.Common.{ℕ, ◌<◌}
use Rattle.signed_clause.specs.Ranges.{IsSubset}
use Rattle.signed_clause.specs.Clauses.{box_of}
use Rattle.test_search_checks.proofs.wider.are_wider.Given as goal

abbrev pub invariant-loop-x : goal.invariant-loop-x
invariant-loop-x l = (y : ℕ) → y < l.x → IsSubset (box_of l.small y) (box_of l.large y)
