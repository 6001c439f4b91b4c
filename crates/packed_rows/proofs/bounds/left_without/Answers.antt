use Rattle.std.proofs.Common.{ℤ, ap, arith}
use Rattle.std.proofs.lemmas.Int.{ints}
use Rattle.packed_rows.proofs.SmallRowLaws.{box_ordered}
use Rattle.packed_rows.proofs.bounds.left_without.Goals.{then-place-lt0-via-then-place-lt0, then-place-lt0-via-else-place-lt0+then-place-gt-LAST_BIN, then-place-lt0-via-else-place-lt0+else-place-gt-LAST_BIN+then-size-lt0, then-place-lt0-via-else-place-lt0+else-place-gt-LAST_BIN+else-size-lt0+then-size-lt0-2}
use Rattle.packed_rows.proofs.bounds.left_without.Goals as goal

pub returns-then-place-lt0-clause-none : goal.returns-then-place-lt0-clause-none
returns-then-place-lt0-clause-none c valid rest small =
    let place = small.place in
    let low = ap (λ (z : ℤ × ℤ). z.0) c.ends_at-place.ensures in
    let high = ap (λ (z : ℤ × ℤ). z.1) c.ends_at-place.ensures in
    let least = ap (λ (z : ℤ × ℤ). z.0) c.ends_at-size.ensures in
    let greatest = ap (λ (z : ℤ × ℤ). z.1) c.ends_at-size.ensures in
    let order = box_ordered c.args.boxes.now c.args.row.1 valid in
    elim c.then-place-lt0.branch [
      | then-place-lt0-via-then-place-lt0 w ↦ omega (arith, ints, low, place.0, w.if-place-lt0.true)
      | then-place-lt0-via-else-place-lt0+then-place-gt-LAST_BIN w ↦ omega (arith, ints, high, place.1, w.if-place-gt-LAST_BIN.true)
      | then-place-lt0-via-else-place-lt0+else-place-gt-LAST_BIN+then-size-lt0 w ↦ omega (arith, ints, least, small.size, w.if-size-lt0.true)
      | then-place-lt0-via-else-place-lt0+else-place-gt-LAST_BIN+else-size-lt0+then-size-lt0-2 w ↦ omega (arith, ints, greatest, order, small.size, w.if-size-lt0-2.true)
    ]
