-- Sums whose interval has a single number name no variable.
use Rattle.std.proofs.Common.{◌≡◌, ◌≢◌, ℕ, zero, suc, Bool, true, false, ◌||◌, List, [], ◌∷◌, ℤ, pos, negsuc, ◌+ℤ◌, ◌*ℤ◌, ◌≤ℤ◌, ◌<ℤ◌, refl, arith}
use Rattle.std.specs.Int.{int_max, int_min}
use Rattle.std.specs.Ordering.{int_eq}
use Rattle.std.proofs.lemmas.Int.{ints, clamps}
use Rattle.std.proofs.Math.IntN.{one, *ℤ-one}
use Rattle.conf_syntax.specs.declared.tree.Op.TheVariants as op
use Rattle.conf_limits.specs.declared.interval.Interval.{Interval}
use Rattle.signed_clause.specs.Clauses.{Boxes, box_of}
use Rattle.ground_form.specs.Bounds.{low_of, high_of, least_term, greatest_term, least_sum, greatest_sum}
use Rattle.ground_form.proofs.Products.{mul_up, mul_down}
use Rattle.ground_build.proofs.Sums.{sums_ordered}
use Rattle.form_build.specs.declared.form.Linear.{Linear}
use Rattle.form_build.specs.Sums.{IsOpen, AreTerms, IsSum}
use Rattle.form_build.proofs.Distributing.{spread}
use Rattle.operator_forms.specs.Operating.{AreNumbers}

-- ---- a term over an open box has two values

times_one : (c : ℤ) → (c *ℤ pos 1) ≡ c
unfolding one
times_one c = *ℤ-one c

less_up : (n : ℕ) (low high : ℤ) → low <ℤ high → (pos (suc n) *ℤ low) <ℤ (pos (suc n) *ℤ high)
less_up n low high h =
    let m = mul_up (suc n) (low +ℤ pos 1) high (omega (arith, ints, h)) in
    let s = spread (pos (suc n)) low (pos 1) in
    let o = times_one (pos (suc n)) in
    omega (arith, ints, m, s, o)

less_down : (n : ℕ) (low high : ℤ) → low <ℤ high → (negsuc n *ℤ high) <ℤ (negsuc n *ℤ low)
less_down n low high h =
    let m = mul_down n (low +ℤ pos 1) high (omega (arith, ints, h)) in
    let s = spread (negsuc n) low (pos 1) in
    let o = times_one (negsuc n) in
    omega (arith, ints, m, s, o)

ends_less : (c low high : ℤ) → c ≢ pos 0 → low <ℤ high → int_min (c *ℤ low) (c *ℤ high) <ℤ int_max (c *ℤ low) (c *ℤ high)
ends_less (pos zero) low high some h = absurd (some refl)
ends_less (pos (suc n)) low high some h = let m = less_up n low high h in omega (arith, ints, clamps, m)
ends_less (negsuc n) low high some h = let m = less_down n low high h in omega (arith, ints, clamps, m)

term_less : (t : ℤ × ℕ) (boxes : Boxes) → t.0 ≢ pos 0 → IsOpen (box_of boxes t.1) → least_term t boxes <ℤ greatest_term t boxes
unfolding least_term greatest_term
term_less t boxes some h = ends_less t.0 (low_of (box_of boxes t.1)) (high_of (box_of boxes t.1)) some h

no_terms : (boxes : Boxes) (ts : List (ℤ × ℕ)) → AreTerms boxes 0 ts → greatest_sum ts boxes ≤ℤ least_sum ts boxes → ts ≡ []
no_terms boxes [] h k = refl
no_terms boxes (t ∷ ts) h k =
    let first = term_less t boxes h.2 h.3 in
    let rest = sums_ordered ts boxes in
    absurd (omega (arith, ints, first, rest, k))

-- ---- one of two factors is fixed

single : (low high : ℤ) → int_eq low high ≡ true → high ≤ℤ low
single low high h = grind (arith, ints)

fixed_sum : (boxes : Boxes) (i : Interval) (f : Linear) → int_eq i.low i.high ≡ true → IsSum boxes i.low i.high f → f.terms ≡ []
fixed_sum boxes i f e h =
    let point = single i.low i.high e in
    no_terms boxes f.terms h.linear.terms (omega (arith, ints, point, h.lies.low_is, h.lies.high_is))

-- where the left factor names variables, the right one is fixed
pub other_fixed : (boxes : Boxes) (f g : Linear) → AreNumbers boxes op.Mul f g → f.terms ≢ [] → g.terms ≡ []
other_fixed boxes f g h some = by (int_eq h.left.low h.left.high) (int_eq h.right.low h.right.high) refl refl h.factor
  where
    by : (p q : Bool) → int_eq h.left.low h.left.high ≡ p → int_eq h.right.low h.right.high ≡ q → (p || q) ≡ true → g.terms ≡ []
    by true q e k m = absurd (some (fixed_sum boxes h.left f e h.left_is))
    by false true e k m = fixed_sum boxes h.right g k h.right_is
    by false false e k m = absurd cc
