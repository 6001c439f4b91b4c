-- What plus and minus make of numbers of two intervals.
use Rattle.std.proofs.Common.{◌≡◌, ◌+ℤ◌, ◌-ℤ◌, sym, subst, arith}
use Rattle.std.proofs.lemmas.Int.{ints}
use Rattle.conf_syntax.specs.declared.tree.Op.{Op}
use Rattle.conf_syntax.specs.declared.tree.Op.TheVariants as op
use Rattle.conf_limits.specs.Measures.{operator_interval}
use Rattle.signed_clause.specs.Clauses.{Boxes}
use Rattle.form_build.specs.declared.form.Linear.{Linear}
use Rattle.form_build.specs.Sums.{least_linear, greatest_linear, IsSum}
use Rattle.form_build.proofs.Linears.{sum_wider}
use Rattle.operator_forms.specs.Operating.{AreNumbers, LiesBetween}
use Rattle.operator_forms.proofs.Factors.{AreNear, near_ends}

-- the same of an operator that is known to be this one
pub numbers_of : (boxes : Boxes) (q p : Op) (f g : Linear) → q ≡ p → AreNumbers boxes q f g → AreNumbers boxes p f g
numbers_of boxes q p f g e h = subst (λ (z : Op). AreNumbers boxes z f g) e h

pub between_of : (old new : Boxes) (q p : Op) (f g r : Linear) → q ≡ p → LiesBetween old new p f g r → LiesBetween old new q f g r
between_of old new q p f g r e h = subst (λ (z : Op). LiesBetween old new z f g r) (sym e) h

-- ---- plus

pub plus_near : (boxes : Boxes) (f g : Linear) → AreNumbers boxes op.Add f g → AreNear (least_linear f boxes +ℤ least_linear g boxes) (greatest_linear f boxes +ℤ greatest_linear g boxes)
plus_near boxes f g h =
    let near = near_ends (operator_interval op.Add h.left h.right) h.narrow in
    let l = h.left_is.lies in
    let r = h.right_is.lies in
    record {
      low_near = omega (arith, ints, near.low_near, l.low_is, r.low_is);
      high_near = omega (arith, ints, near.high_near, l.high_is, r.high_is);
    }

pub plus_between : (old new : Boxes) (f g r : Linear) → IsSum new (least_linear f old +ℤ least_linear g old) (greatest_linear f old +ℤ greatest_linear g old) r → LiesBetween old new op.Add f g r
plus_between old new f g r sum i j left right =
    let a = left.lies in
    let b = right.lies in
    sum_wider new _ _ _ _ r (omega (arith, ints, a.low_is, b.low_is)) (omega (arith, ints, a.high_is, b.high_is)) sum

-- ---- minus

pub minus_near : (boxes : Boxes) (f g : Linear) → AreNumbers boxes op.Sub f g → AreNear (least_linear f boxes -ℤ greatest_linear g boxes) (greatest_linear f boxes -ℤ least_linear g boxes)
minus_near boxes f g h =
    let near = near_ends (operator_interval op.Sub h.left h.right) h.narrow in
    let l = h.left_is.lies in
    let r = h.right_is.lies in
    record {
      low_near = omega (arith, ints, near.low_near, l.low_is, r.high_is);
      high_near = omega (arith, ints, near.high_near, l.high_is, r.low_is);
    }

pub minus_between : (old new : Boxes) (f g r : Linear) → IsSum new (least_linear f old -ℤ greatest_linear g old) (greatest_linear f old -ℤ least_linear g old) r → LiesBetween old new op.Sub f g r
minus_between old new f g r sum i j left right =
    let a = left.lies in
    let b = right.lies in
    sum_wider new _ _ _ _ r (omega (arith, ints, a.low_is, b.high_is)) (omega (arith, ints, a.high_is, b.low_is)) sum
