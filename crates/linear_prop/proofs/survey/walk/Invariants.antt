use Rattle.std.proofs.Common.{◌≡◌, ◌<◌, ◌≤◌, ◌+◌, ◌+ℤ◌, ◌≤ℤ◌, ◌<ℤ◌, pos, drop, unsigned_abs, get_or}
use Rattle.std.specs.Int.{int_max}
use Rattle.ground_form.specs.Bounds.{least_sum, weight_of}
use Rattle.linear_prop.specs.Rows.{terms_of, spread_of, greatest_spread}
use Rattle.linear_prop.proofs.survey.walk.Given as goal

abbrev pub invariant-loop-i : goal.invariant-loop-i
invariant-loop-i l = record {
  value : l.found.least.value +ℤ least_sum (drop l.i (terms_of l.row)) l.boxes ≡ least_sum (terms_of l.row) l.boxes;
  fits : unsigned_abs l.found.least.value + weight_of (drop l.i (terms_of l.row)) l.boxes ≤ weight_of (terms_of l.row) l.boxes;
  spread : int_max l.found.spread.value (greatest_spread (drop l.i (terms_of l.row)) l.boxes) ≡ greatest_spread (terms_of l.row) l.boxes;
  some : pos 0 ≤ℤ l.found.spread.value;
  index : pos 0 <ℤ l.found.spread.value → l.found.index < l.i;
  widest : pos 0 <ℤ l.found.spread.value → spread_of (get_or (terms_of l.row) l.found.index (pos 0, 0)) l.boxes ≡ l.found.spread.value;
}
