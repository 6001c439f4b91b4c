-- A number times a sum: how large it gets, and in which interval it lies.
use Rattle.std.proofs.Common.{◌≡◌, ℕ, ◌*◌, ◌≤◌, ◌^◌, max, Bool, true, false, List, [], ℤ, pos, neg_ℤ, ◌*ℤ◌, ◌≤ℤ◌, int_le, unsigned_abs, refl, sym, ap, ◌∙◌, subst, arith}
use Rattle.std.specs.Prelude.{nat_le}
use Rattle.std.specs.Int.{int_max, int_min}
use Rattle.std.proofs.lemmas.Bool.{and_parts}
use Rattle.std.proofs.lemmas.Bool.Decides.{nat_tests}
use Rattle.std.proofs.lemmas.Int.{ints, clamps, unsigned_abs-mul}
use Rattle.std.proofs.Math.IntN.{*ℤ_comm}
use Rattle.std.proofs.Math.Nat.{mul-le-mul_left}
use Rattle.model_limits.specs.Limits.{most_width}
use Rattle.conf_syntax.specs.declared.tree.Op.TheVariants as op
use Rattle.conf_limits.specs.declared.interval.Interval.{Interval}
use Rattle.conf_limits.specs.Measures.{is_near, is_narrow, times}
use Rattle.conf_eval.specs.Fitting.{IsWithin}
use Rattle.conf_eval.proofs.LawsSums.{times_within}
use Rattle.signed_clause.specs.Ranges.{Ranges}
use Rattle.signed_clause.specs.Clauses.{Boxes}
use Rattle.ground_form.specs.Meaning.{sum_at}
use Rattle.ground_form.specs.Bounds.{low_of, high_of, reach_of, least_sum, greatest_sum, LiesWithin}
use Rattle.ground_form.proofs.Products.{mul_least, mul_greatest}
use Rattle.ground_build.proofs.Sums.{sums_ordered}
use Rattle.form_build.specs.declared.form.Linear.{Linear}
use Rattle.form_build.specs.Forms.{linear_at}
use Rattle.form_build.specs.Sums.{linear_weight, least_linear, greatest_linear, IsLinear, LiesFrom, IsSum, AreNumbersWithin}
use Rattle.form_build.proofs.Linears.{numbers_within}
use Rattle.operator_forms.specs.Operating.{AreNumbers, LiesBetween}
use Rattle.operator_forms.specs.Products.{AreNearProducts}

-- ---- narrow intervals

at_most : (a b : ℤ) → int_le a b ≡ true → a ≤ℤ b
at_most a b h = grind (arith, ints)

-- the ends of a narrow interval
pub record AreNear (low high : ℤ) : Type 0 where
  pub low_near : neg_ℤ (pos (2 ^ 50)) ≤ℤ low
  pub high_near : high ≤ℤ pos (2 ^ 50)

pub near_ends : (i : Interval) → is_narrow i ≡ true → AreNear i.low i.high
near_ends i n =
    let p = and_parts (is_near i.low) (is_near i.high) n in
    record {
      low_near = at_most (neg_ℤ (pos most_width)) i.low (and_parts (int_le (neg_ℤ (pos most_width)) i.low) (int_le i.low (pos most_width)) p.0).0;
      high_near = at_most i.high (pos most_width) (and_parts (int_le (neg_ℤ (pos most_width)) i.high) (int_le i.high (pos most_width)) p.1).1;
    }

small : (v : ℤ) → neg_ℤ (pos (2 ^ 50)) ≤ℤ v → v ≤ℤ pos (2 ^ 50) → unsigned_abs v ≤ 2 ^ 50
small v h k = omega (arith, ints, h, k)

small_within : (i : Interval) (v : ℤ) → is_narrow i ≡ true → IsWithin i v → unsigned_abs v ≤ 2 ^ 50
small_within i v n h =
    let near = near_ends i n in
    small v (omega (arith, ints, near.low_near, h.low)) (omega (arith, ints, near.high_near, h.high))

-- ---- the number c times what lies in j lies in k

abbrev TakesInto : ℤ → Interval → Interval → Type 0
TakesInto c j k = (x : ℤ) → IsWithin j x → IsWithin k (c *ℤ x)

least_within : (boxes : Boxes) (j : Interval) (f : Linear) → IsSum boxes j.low j.high f → IsWithin j (least_linear f boxes)
least_within boxes j f h =
    let order = sums_ordered f.terms boxes in
    record { low = h.lies.low_is; high = omega (arith, ints, order, h.lies.high_is) }

greatest_within : (boxes : Boxes) (j : Interval) (f : Linear) → IsSum boxes j.low j.high f → IsWithin j (greatest_linear f boxes)
greatest_within boxes j f h =
    let order = sums_ordered f.terms boxes in
    record { low = omega (arith, ints, order, h.lies.low_is); high = h.lies.high_is }

small_product : (c : ℤ) (j k : Interval) (v : ℤ) → is_narrow k ≡ true → TakesInto c j k → IsWithin j v → unsigned_abs c * unsigned_abs v ≤ 2 ^ 50
small_product c j k v n t h =
    let is = unsigned_abs-mul c v in
    let le = small_within k (c *ℤ v) n (t v h) in
    omega (arith, is, le)

near_products : (c : ℤ) (j k : Interval) (boxes : Boxes) (f : Linear) → is_narrow k ≡ true → TakesInto c j k → IsSum boxes j.low j.high f → AreNearProducts c boxes f
near_products c j k boxes f n t h = record {
  least = small_product c j k (least_linear f boxes) n t (least_within boxes j f h);
  greatest = small_product c j k (greatest_linear f boxes) n t (greatest_within boxes j f h);
}

product_sum : (c : ℤ) (j k : Interval) (old new : Boxes) (f r : Linear) → TakesInto c j k → IsSum old j.low j.high f → IsLinear (2 ^ 58) new r →
    int_min (c *ℤ least_linear f old) (c *ℤ greatest_linear f old) ≤ℤ least_linear r new → greatest_linear r new ≤ℤ int_max (c *ℤ least_linear f old) (c *ℤ greatest_linear f old) → IsSum new k.low k.high r
product_sum c j k old new f r t h linear low high =
    let first = t (least_linear f old) (least_within old j f h) in
    let last = t (greatest_linear f old) (greatest_within old j f h) in
    record {
      linear = linear;
      lies = record {
        low_is = omega (arith, ints, clamps, low, first.low, last.low);
        high_is = omega (arith, ints, clamps, high, first.high, last.high);
      };
    }

-- ---- a fixed sum is its offset

fixed_within : (boxes : Boxes) (i : Interval) (f : Linear) (c : ℤ) → f.terms ≡ [] → c ≡ f.offset → IsSum boxes i.low i.high f → IsWithin i c
fixed_within boxes i f c nil e h =
    let least = ap (λ (z : List (ℤ × ℕ)). least_sum z boxes) nil in
    let greatest = ap (λ (z : List (ℤ × ℕ)). greatest_sum z boxes) nil in
    record { low = omega (arith, ints, h.lies.low_is, least, e); high = omega (arith, ints, h.lies.high_is, greatest, e) }

fixed_at : (f : Linear) (c : ℤ) (a : List ℤ) → f.terms ≡ [] → c ≡ f.offset → linear_at f a ≡ c
fixed_at f c a nil e =
    let sum = ap (λ (z : List (ℤ × ℕ)). sum_at z a) nil in
    omega (arith, ints, sum, e)

left_takes : (i j : Interval) (c : ℤ) → IsWithin i c → TakesInto c j (times i j)
left_takes i j c h x k = times_within i j c x h k

right_takes : (i j : Interval) (c : ℤ) → IsWithin j c → TakesInto c i (times i j)
right_takes i j c h x k = subst (IsWithin (times i j)) (*ℤ_comm x c) (times_within i j x c k h)

module _ (old : Boxes) (f g : Linear) (c : ℤ) where
  -- the left one is fixed
  pub left_near : AreNumbers old op.Mul f g → f.terms ≡ [] → c ≡ f.offset → AreNearProducts c old g
  left_near h nil e =
      near_products c h.right (times h.left h.right) old g h.narrow (left_takes h.left h.right c (fixed_within old h.left f c nil e h.left_is)) h.right_is

  -- the right one is
  pub right_near : AreNumbers old op.Mul f g → g.terms ≡ [] → c ≡ g.offset → AreNearProducts c old f
  right_near h nil e =
      near_products c h.left (times h.left h.right) old f h.narrow (right_takes h.left h.right c (fixed_within old h.right g c nil e h.right_is)) h.left_is

  module _ (new : Boxes) (r : Linear) (linear : IsLinear (2 ^ 58) new r) where
    pub left_between : f.terms ≡ [] → c ≡ f.offset → int_min (c *ℤ least_linear g old) (c *ℤ greatest_linear g old) ≤ℤ least_linear r new → greatest_linear r new ≤ℤ int_max (c *ℤ least_linear g old) (c *ℤ greatest_linear g old) → LiesBetween old new op.Mul f g r
    left_between nil e low high i j left right =
        product_sum c j (times i j) old new g r (left_takes i j c (fixed_within old i f c nil e left)) right linear low high

    pub right_between : g.terms ≡ [] → c ≡ g.offset → int_min (c *ℤ least_linear f old) (c *ℤ greatest_linear f old) ≤ℤ least_linear r new → greatest_linear r new ≤ℤ int_max (c *ℤ least_linear f old) (c *ℤ greatest_linear f old) → LiesBetween old new op.Mul f g r
    right_between nil e low high i j left right =
        product_sum c i (times i j) old new f r (right_takes i j c (fixed_within old j g c nil e right)) left linear low high

pub left_value : (f g r : Linear) (c : ℤ) (a : List ℤ) → f.terms ≡ [] → c ≡ f.offset → linear_at r a ≡ c *ℤ linear_at g a → linear_at r a ≡ linear_at f a *ℤ linear_at g a
left_value f g r c a nil e h = h ∙ ap (λ (z : ℤ). z *ℤ linear_at g a) (sym (fixed_at f c a nil e))

pub right_value : (f g r : Linear) (c : ℤ) (a : List ℤ) → g.terms ≡ [] → c ≡ g.offset → linear_at r a ≡ c *ℤ linear_at f a → linear_at r a ≡ linear_at f a *ℤ linear_at g a
right_value f g r c a nil e h = h ∙ *ℤ_comm c (linear_at f a) ∙ ap (λ (z : ℤ). linear_at f a *ℤ z) (sym (fixed_at g c a nil e))

-- ---- what is known of a number times a sum

pub record HasTimes (c : ℤ) (f r : Linear) : Type 0 where
  pub value : (a : List ℤ) → linear_at r a ≡ c *ℤ linear_at f a
  pub linear : (boxes : Boxes) (n : ℕ) → IsLinear n boxes f → IsLinear (unsigned_abs c * n) boxes r
  pub low : (boxes : Boxes) → int_min (c *ℤ least_linear f boxes) (c *ℤ greatest_linear f boxes) ≤ℤ least_linear r boxes
  pub high : (boxes : Boxes) → greatest_linear r boxes ≤ℤ int_max (c *ℤ least_linear f boxes) (c *ℤ greatest_linear f boxes)

-- the same by another word for the number
pub has_times : (c d : ℤ) (f r : Linear) → d ≡ c → HasTimes d f r → HasTimes c f r
has_times c d f r e h = subst (λ (z : ℤ). HasTimes z f r) e h

-- ---- numbers that fit

times_within_bound : (k m n : ℕ) → 1 * m ≤ n → k * n ≤ 2 ^ 58 → k * m ≤ 2 ^ 62
times_within_bound k m n h e = let p : k * m ≤ k * n = mul-le-mul_left k (omega (arith, h)) in omega (arith, p, e)

-- of a sum whose numbers add up to at most n
pub scaled_within : (boxes : Boxes) (n k : ℕ) (f : Linear) → IsLinear n boxes f → k * n ≤ 2 ^ 58 → AreNumbersWithin k (2 ^ 62) f
scaled_within boxes n k f h e =
    let one = numbers_within boxes n n f (omega arith) h in
    record {
      terms = λ j d lt. times_within_bound k _ n (one.terms j d lt) e;
      offset = times_within_bound k _ n one.offset e;
    }

pub own_weight : (boxes : Boxes) (n : ℕ) (f : Linear) → IsLinear n boxes f → IsLinear (linear_weight f boxes) boxes f
own_weight boxes n f h = record { terms = h.terms; bounded = omega arith }

-- ---- a variable between the ends of a sum

between : (c low high v : ℤ) → low ≤ℤ v → v ≤ℤ high → unsigned_abs c * unsigned_abs low ≤ 2 ^ 50 → unsigned_abs c * unsigned_abs high ≤ 2 ^ 50 → unsigned_abs c * unsigned_abs v ≤ 2 ^ 50
between c low high v h k e f =
    let least = mul_least c low high v h k in
    let greatest = mul_greatest c low high v h k in
    let is_low = unsigned_abs-mul c low in
    let is_high = unsigned_abs-mul c high in
    let is = unsigned_abs-mul c v in
    omega (arith, ints, clamps, least, greatest, is_low, is_high, is, e, f)

greater_one : (k m n p : ℕ) → k * m ≤ p → k * n ≤ p → k * max m n ≤ p
greater_one k m n p h e = by (nat_le m n) refl
  where
    by : (b : Bool) → nat_le m n ≡ b → k * max m n ≤ p
    by true q = let le : m ≤ n = grind (arith, nat_tests) in let is : max m n ≡ n = omega (arith, le) in rw is e
    by false q = let le : n ≤ m = grind (arith, nat_tests) in let is : max m n ≡ m = omega (arith, le) in rw is h

-- a number times the variable's greatest absolute value
pub reach_near : (c : ℤ) (boxes : Boxes) (f : Linear) (box : Ranges) → AreNearProducts c boxes f → LiesWithin (least_linear f boxes) (greatest_linear f boxes) box → low_of box ≤ℤ high_of box → unsigned_abs c * reach_of box ≤ 2 ^ 50
reach_near c boxes f box near lies order =
    greater_one (unsigned_abs c) (unsigned_abs (low_of box)) (unsigned_abs (high_of box)) (2 ^ 50)
    (between c (least_linear f boxes) (greatest_linear f boxes) (low_of box) lies.0 (omega (arith, ints, lies.1, order)) near.least near.greatest)
    (between c (least_linear f boxes) (greatest_linear f boxes) (high_of box) (omega (arith, ints, lies.0, order)) lies.1 near.least near.greatest)

-- what a number times the variable lies between
pub settled_low : (c : ℤ) (old new : Boxes) (f one r : Linear) (box : Ranges) → LiesWithin (least_linear f old) (greatest_linear f old) box → LiesFrom (low_of box) (high_of box) new one →
    int_min (c *ℤ least_linear one new) (c *ℤ greatest_linear one new) ≤ℤ least_linear r new → int_min (c *ℤ least_linear f old) (c *ℤ greatest_linear f old) ≤ℤ least_linear r new
settled_low c old new f one r box lies inner low =
    let order = sums_ordered one.terms new in
    let first = mul_least c (least_linear f old) (greatest_linear f old) (least_linear one new) (omega (arith, ints, lies.0, inner.low_is)) (omega (arith, ints, lies.1, inner.high_is, order)) in
    let last = mul_least c (least_linear f old) (greatest_linear f old) (greatest_linear one new) (omega (arith, ints, lies.0, inner.low_is, order)) (omega (arith, ints, lies.1, inner.high_is)) in
    omega (arith, ints, clamps, first, last, low)

pub settled_high : (c : ℤ) (old new : Boxes) (f one r : Linear) (box : Ranges) → LiesWithin (least_linear f old) (greatest_linear f old) box → LiesFrom (low_of box) (high_of box) new one →
    greatest_linear r new ≤ℤ int_max (c *ℤ least_linear one new) (c *ℤ greatest_linear one new) → greatest_linear r new ≤ℤ int_max (c *ℤ least_linear f old) (c *ℤ greatest_linear f old)
settled_high c old new f one r box lies inner high =
    let order = sums_ordered one.terms new in
    let first = mul_greatest c (least_linear f old) (greatest_linear f old) (least_linear one new) (omega (arith, ints, lies.0, inner.low_is)) (omega (arith, ints, lies.1, inner.high_is, order)) in
    let last = mul_greatest c (least_linear f old) (greatest_linear f old) (greatest_linear one new) (omega (arith, ints, lies.0, inner.low_is, order)) (omega (arith, ints, lies.1, inner.high_is)) in
    omega (arith, ints, clamps, first, last, high)
