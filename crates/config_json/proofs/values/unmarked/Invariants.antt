use Rattle.std.proofs.Common.{◌≡◌, ℕ, length, false}
use Rattle.std.specs.Prelude.{slice_index_or}
use Rattle.config_json.proofs.values.unmarked.Given as goal

abbrev pub invariant-loop-object : goal.invariant-loop-object
invariant-loop-object l = (length l.marks.items ≡ l._object) × ((n : ℕ) → slice_index_or l.marks.items n false ≡ false)
