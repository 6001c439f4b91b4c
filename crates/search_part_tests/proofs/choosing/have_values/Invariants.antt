use Rattle.std.proofs.Common.{◌≡◌, false, drop, All}
use Rattle.signed_clause.specs.Ranges.{is_nil}
use Rattle.search_part_tests.proofs.choosing.have_values.Given as goal

abbrev pub invariant-loop-s : goal.invariant-loop-s
invariant-loop-s l =
    All (λ s. is_nil s ≡ false) (drop l.s-index l.boxes) → All (λ s. is_nil s ≡ false) l.boxes
