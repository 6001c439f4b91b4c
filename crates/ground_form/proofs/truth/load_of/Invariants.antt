use Rattle.std.proofs.Common.{◌≡◌, ◌≤ℤ◌, ◌+ℤ◌, pos, drop}
use Rattle.ground_form.specs.Meaning.{value_of, load_at}
use Rattle.ground_form.specs.Bounds.{size_sum, singles}
use Rattle.ground_form.proofs.truth.load_of.Given as goal

abbrev pub invariant-loop-i : goal.invariant-loop-i
invariant-loop-i l = record {
  value : l.sum.value +ℤ load_at (value_of l.values l.of) (drop l.i-index l.items) l.values ≡ load_at (value_of l.values l.of) l.items l.values;
  low : pos 0 ≤ℤ l.sum.value;
  high : (l.sum.value +ℤ size_sum (drop l.i-index l.items) (singles l.values)) ≤ℤ size_sum l.items (singles l.values);
}
