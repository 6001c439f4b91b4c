-- Sums that are 0, or lie on one side of it, wherever all constraints hold.
use Rattle.std.proofs.Common.{◌≡◌, ℕ, zero, suc, ◌*◌, ◌^◌, ◌≤◌, Bool, true, false, not, ◌&&◌, List, ℤ, pos, negsuc, neg_ℤ, ◌+ℤ◌, ◌*ℤ◌, ◌≤ℤ◌, int_le, unsigned_abs, All, refl, sym, ap, ◌∙◌, arith}
use Rattle.std.proofs.lemmas.Bool.{and_parts}
use Rattle.std.proofs.lemmas.Int.{ints}
use Rattle.std.proofs.lemmas.List.Elements.{All-weaker}
use Rattle.std.proofs.Math.IntN.{zero-*ℤ, *ℤ_comm}
use Rattle.std.proofs.Math.Nat.{mul-le-mul_left, mul-le-mul_right}
use Rattle.signed_clause.specs.Clauses.{Boxes}
use Rattle.ground_form.specs.declared.ground.Ground.{Ground}
use Rattle.ground_form.proofs.Products.{mul_up, mul_down}
use Rattle.form_build.specs.declared.form.Linear.{Linear}
use Rattle.form_build.specs.Forms.{linear_at}
use Rattle.form_build.specs.Sums.{IsLinear, AreNumbersWithin}
use Rattle.form_build.specs.Worlds.{IsWorld, AllHold, Grows}
use Rattle.form_build.proofs.Growth.{world_before, all_before}
use Rattle.form_build.proofs.Keeping.{linear_kept}
use Rattle.form_build.proofs.Linears.{numbers_within, linear_more}
use Rattle.stated_facts.specs.declared.noughts.Nought.{Nought}
use Rattle.stated_facts.specs.Rows.{Follows, IsAbove, IsNought, IsAllowed}

-- ---- growth

pub follows_kept : (old new : Ground) (f : Linear) → Grows old new → Follows old f → Follows new f
follows_kept old new f g h a w all = h a (world_before old new a g w) (all_before old new a g all)

pub nought_kept : (old new : Ground) (z : Nought) → Grows old new → IsNought old z → IsNought new z
nought_kept old new z g h = record {
  linear = linear_kept (2 ^ 20) old new z.sum g h.linear;
  adds = λ e. follows_kept old new z.sum g (h.adds e);
  takes = λ e a w all. h.takes e a (world_before old new a g w) (all_before old new a g all);
}

-- ---- multiples

none_of : (c v : ℤ) → v ≡ pos 0 → (c *ℤ v) ≡ pos 0
none_of c v e = ap (λ (z : ℤ). c *ℤ z) e ∙ *ℤ_comm c (pos 0) ∙ zero-*ℤ c

pos_below : (n : ℕ) (v : ℤ) → v ≤ℤ pos 0 → (pos n *ℤ v) ≤ℤ pos 0
pos_below n v h = let up = mul_up n v (pos 0) h in let nil = none_of (pos n) (pos 0) refl in omega (arith, ints, up, nil)

pub pos_above : (n : ℕ) (v : ℤ) → pos 0 ≤ℤ v → pos 0 ≤ℤ (pos n *ℤ v)
pos_above n v h = let up = mul_up n (pos 0) v h in let nil = none_of (pos n) (pos 0) refl in omega (arith, ints, up, nil)

pub neg_below : (n : ℕ) (v : ℤ) → pos 0 ≤ℤ v → (neg_ℤ (pos n) *ℤ v) ≤ℤ pos 0
neg_below zero v h = let nil = zero-*ℤ v in omega (arith, ints, nil)
neg_below (suc m) v h = let down = mul_down m (pos 0) v h in let nil = none_of (negsuc m) (pos 0) refl in omega (arith, ints, down, nil)

neg_above : (n : ℕ) (v : ℤ) → v ≤ℤ pos 0 → pos 0 ≤ℤ (neg_ℤ (pos n) *ℤ v)
neg_above zero v h = let nil = zero-*ℤ v in omega (arith, ints, nil)
neg_above (suc m) v h = let down = mul_down m v (pos 0) h in let nil = none_of (negsuc m) (pos 0) refl in omega (arith, ints, down, nil)

-- a row so many times
pub scaled_follows : (g : Ground) (row r : Linear) (n : ℕ) (c : ℤ) → c ≡ pos n → ((a : List ℤ) → linear_at r a ≡ (c *ℤ linear_at row a)) → Follows g row → Follows g r
scaled_follows g row r n c e times h a w all =
    let is : linear_at r a ≡ (pos n *ℤ linear_at row a) = times a ∙ ap (λ (z : ℤ). z *ℤ linear_at row a) e in
    let below = pos_below n (linear_at row a) (h a w all) in
    omega (arith, ints, is, below)

module _ (g : Ground) (z : Nought) (n : ℕ) (c : ℤ) (r : Linear) (times : (a : List ℤ) → linear_at r a ≡ (c *ℤ linear_at z.sum a)) (h : IsNought g z) where
  factor_is : (a : List ℤ) (d : ℤ) → c ≡ d → linear_at r a ≡ (d *ℤ linear_at z.sum a)
  factor_is a d e = times a ∙ ap (λ (v : ℤ). v *ℤ linear_at z.sum a) e

  pub multiple_below : (rises : Bool) → (rises ≡ true → c ≡ pos n) → (rises ≡ false → c ≡ neg_ℤ (pos n)) → IsAllowed z rises → Follows g r
  multiple_below true up down may a w all =
      let is = factor_is a (pos n) (up refl) in
      let below = pos_below n (linear_at z.sum a) (h.adds (may.up refl) a w all) in
      omega (arith, ints, is, below)
  multiple_below false up down may a w all =
      let is = factor_is a (neg_ℤ (pos n)) (down refl) in
      let below = neg_below n (linear_at z.sum a) (h.takes (may.down refl) a w all) in
      omega (arith, ints, is, below)

  pub multiple_above : (rises : Bool) → (rises ≡ true → c ≡ pos n) → (rises ≡ false → c ≡ neg_ℤ (pos n)) → IsAllowed z (not rises) → IsAbove g r
  multiple_above true up down may a w all =
      let is = factor_is a (pos n) (up refl) in
      let above = pos_above n (linear_at z.sum a) (h.takes (may.down refl) a w all) in
      omega (arith, ints, is, above)
  multiple_above false up down may a w all =
      let is = factor_is a (neg_ℤ (pos n)) (down refl) in
      let above = neg_above n (linear_at z.sum a) (h.adds (may.up refl) a w all) in
      omega (arith, ints, is, above)

-- ---- a row with a multiple of what is 0

at_most : (x : ℤ) → x ≤ℤ pos 0 → int_le x (pos 0) ≡ true
at_most x h = grind (arith, ints)

pub both_below : (g : Ground) (row more f : Linear) → Follows g row → Follows g more → ((a : List ℤ) → linear_at f a ≡ (linear_at row a +ℤ linear_at more a)) → Follows g f
both_below g row more f one two plus a w all =
    let left = one a w all in
    let right = two a w all in
    let sum = plus a in
    omega (arith, ints, left, right, sum)

pub both_above : (g : Ground) (row more f : Linear) → IsAbove g row → IsAbove g more → ((a : List ℤ) → linear_at f a ≡ (linear_at row a +ℤ linear_at more a)) → IsAbove g f
both_above g row more f one two plus a w all =
    let left = one a w all in
    let right = two a w all in
    let sum = plus a in
    omega (arith, ints, left, right, sum)

pub row_says : (g : Ground) (row more f : Linear) → Follows g row → Follows g more → ((a : List ℤ) → linear_at f a ≡ (linear_at row a +ℤ linear_at more a)) → (a : List ℤ) → IsWorld g a → AllHold g a → int_le (linear_at f a) (pos 0) ≡ true
row_says g row more f one two plus a w all = at_most (linear_at f a) (both_below g row more f one two plus a w all)

-- what is 0 with a multiple of something else that is
pub combined_nought : (g : Ground) (own other : Nought) (up down : Bool) (more : Linear) (r : Nought) → IsNought g own → (up ≡ true → Follows g more) → (down ≡ true → IsAbove g more) →
    ((a : List ℤ) → linear_at r.sum a ≡ (linear_at own.sum a +ℤ linear_at more a)) → IsLinear (2 ^ 20) g.domains r.sum → r.adds ≡ (own.adds && up) → r.takes ≡ (own.takes && down) → IsNought g r
combined_nought g own other up down more r h below above plus linear e f = record {
  linear = linear;
  adds = λ t. let both = and_parts own.adds up (sym e ∙ t) in both_below g own.sum more r.sum (h.adds both.0) (below both.1) plus;
  takes = λ t. let both = and_parts own.takes down (sym f ∙ t) in both_above g own.sum more r.sum (h.takes both.0) (above both.1) plus;
}

small_product : (c n : ℕ) → c ≤ 2 ^ 38 → n ≤ 2 ^ 20 → c * n ≤ 2 ^ 58
small_product c n h k =
    let one = mul-le-mul_left c k in
    let two = mul-le-mul_right (2 ^ 20) h in
    omega (arith, one, two)

pub multiple_linear : (boxes : Boxes) (f : Linear) (c : ℤ) → unsigned_abs c ≤ 2 ^ 38 → IsLinear (unsigned_abs c * 2 ^ 20) boxes f → IsLinear (2 ^ 58) boxes f
multiple_linear boxes f c h k = linear_more (unsigned_abs c * 2 ^ 20) (2 ^ 58) boxes f (small_product (unsigned_abs c) (2 ^ 20) h (omega arith)) k

small_numbers : (c : ℕ) (ts : List (ℤ × ℕ)) → c ≤ 2 ^ 38 → All (λ t. 1 * unsigned_abs t.0 ≤ 2 ^ 20) ts → All (λ t. c * unsigned_abs t.0 ≤ 2 ^ 62) ts
small_numbers c ts h all =
    All-weaker (λ t. 1 * unsigned_abs t.0 ≤ 2 ^ 20) (λ t. c * unsigned_abs t.0 ≤ 2 ^ 62)
    (λ t k. let product = small_product c (unsigned_abs t.0) h (omega (arith, k)) in omega (arith, product)) ts all

pub multiple_numbers : (boxes : Boxes) (f : Linear) (c : ℤ) → unsigned_abs c ≤ 2 ^ 38 → IsLinear (2 ^ 20) boxes f → AreNumbersWithin (unsigned_abs c) (2 ^ 62) f
multiple_numbers boxes f c h k =
    let numbers = numbers_within boxes (2 ^ 20) (2 ^ 20) f (omega arith) k in
    record {
      terms = small_numbers (unsigned_abs c) f.terms h numbers.terms;
      offset =
          let one = numbers.offset in
          let product = small_product (unsigned_abs c) (unsigned_abs f.offset) h (omega (arith, one)) in
          omega (arith, product);
    }
