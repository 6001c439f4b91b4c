use Rattle.std.proofs.Common.{◌≡◌, drop}
use Rattle.std.specs.List.{list_any}
use Rattle.signed_clause.specs.Ranges.{is_nil}
use Rattle.reconfigure.proofs.problem.has_empty.Given as goal

-- what is left decides
abbrev pub invariant-loop-values : goal.invariant-loop-values
invariant-loop-values l = list_any is_nil (drop l.values-index l.boxes) ≡ list_any is_nil l.boxes
