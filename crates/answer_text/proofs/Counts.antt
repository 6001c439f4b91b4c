-- A configuration has a value for each cell, and a repair that is understood a hint.
use Rattle.std.proofs.Common.{◌≤◌, List, length, arith}
use Rattle.std.specs.Prelude.{ℤ}
use Rattle.class_table.specs.Outline.{Outline}
use Rattle.conf_eval.proofs.LawsCells.{values_count}
use Rattle.model_search.specs.Wanted.{IsUnderstood}
use Rattle.object_alloc.specs.Cells.{cells}
use Rattle.object_alloc.specs.Configurations.{IsConfiguration}
use Rattle.reconfigure.proofs.HintCounts as counts
use Rattle.reconfigure.specs.declared.repair.Repair.{Repair}

pub enough_values : (o : Outline) (t : List ℤ) → IsConfiguration o t → length (cells o) ≤ length t
enough_values o t h = let same = values_count o (cells o) t h in omega (arith, same)

pub enough_hints : (o : Outline) (r : Repair) → IsUnderstood o r → length (cells o) ≤ length r.former
enough_hints o r h = counts.enough_hints o r.former h.former
