use Rattle.std.proofs.Common.{◌≡◌, ℕ, ◌<◌, Some}
use Rattle.std.specs.Prelude.{slice_get}
use Rattle.ground_form.specs.declared.con.Con.{Con}
use Rattle.test_well_made.specs.Defined.{IsPlaced}
use Rattle.test_well_made.proofs.defined.are_placed.Given as goal

abbrev pub invariant-loop-k : goal.invariant-loop-k
invariant-loop-k l =
    (j : ℕ) (con : Con) → j < l.k → slice_get l.cons j ≡ Some con → IsPlaced l.search l.count j con
