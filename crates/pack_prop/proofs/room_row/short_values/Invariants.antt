use Rattle.std.proofs.Common.{◌≡◌, ◌||◌, ℤ, drop}
use Rattle.signed_clause.specs.Ranges.{has, IsValid}
use Rattle.pack_prop.specs.RoomRows.{is_short}
use Rattle.pack_prop.proofs.room_row.short_values.Given as goal

abbrev pub invariant-loop-p : goal.invariant-loop-p
invariant-loop-p l = record {
  valid : IsValid l.short;
  values : (v : ℤ) → (has l.short v || is_short v l.high.value (drop l.p-index l.row)) ≡ is_short v l.high.value l.row;
}
