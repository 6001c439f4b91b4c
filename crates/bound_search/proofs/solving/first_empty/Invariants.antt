use Rattle.std.proofs.Common.{◌≡◌, ℕ, ◌<◌, false}
use Rattle.signed_clause.specs.Ranges.{is_nil}
use Rattle.signed_clause.specs.Clauses.{box_of}
use Rattle.bound_search.proofs.solving.first_empty.Given as goal

abbrev pub invariant-loop-x : goal.invariant-loop-x
invariant-loop-x l = (y : ℕ) → y < l.x → is_nil (box_of l.domains y) ≡ false
