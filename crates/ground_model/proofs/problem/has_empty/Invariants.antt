use Rattle.std.proofs.Common.{◌≡◌, false, take}
use Rattle.std.specs.List.{list_any}
use Rattle.signed_clause.specs.Ranges.{is_nil}
use Rattle.ground_model.proofs.problem.has_empty.Given as goal

-- no box so far is empty
abbrev pub invariant-loop-values : goal.invariant-loop-values
invariant-loop-values l = list_any is_nil (take l.values-index l.boxes) ≡ false
