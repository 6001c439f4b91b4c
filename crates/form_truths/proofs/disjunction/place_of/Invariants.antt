use Rattle.std.proofs.Common.{◌<◌, ◌≤◌, length}
use Rattle.std.specs.Prelude.{slice_index_or}
use Rattle.signed_clause.specs.Clauses.{Literal}
use Rattle.form_truths.proofs.disjunction.place_of.Given as goal

abbrev pub invariant-loop-i : goal.invariant-loop-i
invariant-loop-i l = record {
  within : l.i ≤ length l.literals;
  above : (d : Literal) → l.i < length l.literals → l.x ≤ (slice_index_or l.literals l.i d).0;
}

abbrev pub decreases-loop-i : goal.decreases-loop-i
decreases-loop-i l = l.i
