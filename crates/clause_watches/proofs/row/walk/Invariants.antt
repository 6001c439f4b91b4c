use Rattle.std.proofs.Common.{◌-◌, ◌≡◌, ◌≤◌, ℕ, List, length}
use Rattle.signed_clause.specs.Ranges.{Ranges, IsValid}
use Rattle.clause_watches.specs.declared.rest.Rest.{Rest}
use Rattle.clause_watches.specs.Rows.{AreBelow, IsMaskOf, IsWalked}
use Rattle.clause_watches.proofs.row.walk.Given as goal

abbrev pub invariant-loop-k : goal.invariant-loop-k
invariant-loop-k l = record {
  within : l.k ≤ length l.row;
  size : length l.rests ≡ length l.initial.rests;
  below : AreBelow (length l.rests) l.row;
  walked : (sets : ℕ → Ranges) (before : List Rest) → IsMaskOf l.site.least l.at l.site.mask
      → IsValid l.at → ((i : ℕ) → IsValid (sets i))
      → IsWalked sets l.at l.site before l.initial.rests l.initial.row 0
      → IsWalked sets l.at l.site before l.rests l.row l.k;
}

abbrev pub decreases-loop-k : goal.decreases-loop-k
decreases-loop-k l = length l.row - l.k
