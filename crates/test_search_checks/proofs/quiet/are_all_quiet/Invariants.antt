use Rattle.std.proofs.Common.{◌≡◌, ℕ, ◌<◌, true, Some, slice_get}
use Rattle.ground_form.specs.declared.con.Con.{Con}
use Rattle.box_rules.specs.Quiet.{quiet}
use Rattle.test_search_checks.proofs.quiet.are_all_quiet.Given as goal

abbrev pub invariant-loop-k : goal.invariant-loop-k
invariant-loop-k l = (k : ℕ) (con : Con) → k < l.k → slice_get l.g.cons k ≡ Some con →
    quiet con l.boxes ≡ true
