-- Why a row that isn't refuted has something to say.
use Rattle.std.proofs.Common.{◌≡◌, ℕ, ◌*◌, ◌<◌, ◌≤◌, ◌^◌, unsigned_abs, true, List, [], ◌∷◌, ℤ, pos, ◌+ℤ◌, ◌-ℤ◌, ◌*ℤ◌, ◌≤ℤ◌, ◌<ℤ◌, length, refl, ap, sym, subst, ◌∙◌, arith}
use Rattle.std.specs.Prelude.{nat_le, nat_lt}
use Rattle.std.specs.Int.{int_min}
use Rattle.std.proofs.lemmas.Bool.Decides.{nat_tests}
use Rattle.std.proofs.lemmas.Int.{ints, clamps, by_lt_z}
use Rattle.signed_clause.specs.Ranges.{Ranges, IsValid}
use Rattle.signed_clause.specs.Clauses.{Boxes, box_of}
use Rattle.ground_form.specs.Bounds.{low_of, high_of, least_term, greatest_term, least_sum, weight_of}
use Rattle.ground_form.proofs.Weights.{least_term_fits, greatest_term_fits}
use Rattle.box_view.proofs.EndLaws.{ends_in_order}
use Rattle.linear_prop.specs.Rows.{spread_of, greatest_spread}
use Rattle.linear_prop.specs.Falls.{least_at, greatest_at}
use Rattle.linear_prop.specs.Explaining.{term_at, rise, IsCause}
use Rattle.linear_prop.proofs.Spreads.{least_is, greatest_is}
use Rattle.linear_prop.proofs.Products.{above_low_end, below_high_end, some_factor}

-- no spread is more than twice the weight
all_spreads_fit : (ts : List (ℤ × ℕ)) (boxes : Boxes) → unsigned_abs (greatest_spread ts boxes) ≤ 2 * weight_of ts boxes
all_spreads_fit [] boxes = omega arith
all_spreads_fit (t ∷ ts) boxes =
    let more = all_spreads_fit ts boxes in
    let a = least_term_fits t boxes in let b = greatest_term_fits t boxes in
    omega (arith, ints, clamps)

pub spread_fits : (ts : List (ℤ × ℕ)) (boxes : Boxes) (x : ℤ) → weight_of ts boxes ≤ 2 ^ 61 → x ≡ greatest_spread ts boxes → unsigned_abs x ≤ 2 ^ 62
spread_fits ts boxes x w e = let f = all_spreads_fit ts boxes in rw e (omega arith)

rise_first : (ts : List (ℤ × ℕ)) (boxes : Boxes) (index : ℕ) (to : ℤ) → index < length ts → rise ts boxes index to 0 ≡ ((term_at ts index).0 *ℤ to) -ℤ least_term (term_at ts index) boxes
rise_first ts boxes index to h =
    let f : nat_le 0 index ≡ true = grind (arith, nat_tests) in
    let g : nat_lt index (length ts) ≡ true = grind (arith, nat_tests) in rw (f, g) refl

-- the numbers of a cause
record AreNumbers (t : ℤ × ℕ) (boxes : Boxes) (bound least to : ℤ) (slack : ℕ) : Type 0 where
  owed : ((bound +ℤ pos 1) +ℤ pos slack) ≤ℤ (least +ℤ ((t.0 *ℤ to) -ℤ least_term t boxes))
  above : least_term t boxes <ℤ (t.0 *ℤ to)
  below : (t.0 *ℤ to) ≤ℤ greatest_term t boxes

numbers : (t : ℤ × ℕ) (boxes : Boxes) (bound least spread from to : ℤ) (full slack : ℕ) → spread_of t boxes ≡ spread → from ≡ greatest_term t boxes →
    pos full ≡ ((least +ℤ spread) -ℤ bound) -ℤ pos 1 → t.0 *ℤ to ≡ (from -ℤ pos full) +ℤ pos slack → slack ≤ full → least ≤ℤ bound → AreNumbers t boxes bound least to slack
numbers t boxes bound least spread from to full slack s f p q l w =
    let is : spread ≡ greatest_term t boxes -ℤ least_term t boxes = sym s in
    record { owed = omega (arith, ints); above = omega (arith, ints); below = omega (arith, ints) }

record IsBetween (t : ℤ × ℕ) (boxes : Boxes) (to : ℤ) : Type 0 where
  low : low_of (box_of boxes t.1) ≤ℤ to
  high : to ≤ℤ high_of (box_of boxes t.1)

between : (t : ℤ × ℕ) (boxes : Boxes) (at to : ℤ) → IsValid (box_of boxes t.1) → least_term t boxes <ℤ (t.0 *ℤ to) → low_of (box_of boxes t.1) ≤ℤ at → at ≤ℤ high_of (box_of boxes t.1) →
    (pos 0 ≤ℤ t.0 → to ≤ℤ at) → (t.0 <ℤ pos 0 → at ≤ℤ to) → IsBetween t boxes to
between t boxes at to f above low high up down =
    let s = box_of boxes t.1 in
    let o = ends_in_order s f in
    let least : int_min (t.0 *ℤ low_of s) (t.0 *ℤ high_of s) <ℤ (t.0 *ℤ to) = subst (λ (z : ℤ). z <ℤ (t.0 *ℤ to)) (sym (least_is t boxes)) above in
    by_lt_z {P = IsBetween t boxes to} t.0 (pos 0)
    (λ n. let d = down n in let b = below_high_end t.0 (low_of s) (high_of s) to o n least in record { low = omega (arith, ints); high = omega (arith, ints) })
    (λ n. let u = up n in let a = above_low_end t.0 (low_of s) (high_of s) to o n least in record { low = omega (arith, ints); high = omega (arith, ints) })

pub pruned_cause : (ts : List (ℤ × ℕ)) (boxes : Boxes) (bound least spread : ℤ) (index : ℕ) (t : ℤ × ℕ) (c at to : ℤ) (b : Ranges) (full slack : ℕ) →
    index < length ts → t ≡ term_at ts index → c ≡ t.0 → b ≡ box_of boxes t.1 → IsValid b → spread_of (term_at ts index) boxes ≡ spread → least ≡ least_sum ts boxes → least ≤ℤ bound →
    pos full ≡ ((least +ℤ spread) -ℤ bound) -ℤ pos 1 → c *ℤ at ≡ greatest_at c b → low_of b ≤ℤ at → at ≤ℤ high_of b →
    c *ℤ to ≡ ((c *ℤ at) -ℤ pos full) +ℤ pos slack → slack ≤ full → (pos 0 ≤ℤ c → to ≤ℤ at) → (c <ℤ pos 0 → at ≤ℤ to) → IsCause ts boxes bound index to slack
pruned_cause ts boxes bound least spread index t c at to b full slack h e f g valid s m w p q low high paid l up down =
    let from_is : c *ℤ at ≡ greatest_term t boxes = q ∙ ap (λ (z : ℤ). greatest_at z b) f ∙ ap (λ (r : Ranges). greatest_at t.0 r) g ∙ greatest_is t boxes in
    let of_t : spread_of t boxes ≡ spread = ap (λ (u : ℤ × ℕ). spread_of u boxes) e ∙ s in
    let paid_t : t.0 *ℤ to ≡ ((c *ℤ at) -ℤ pos full) +ℤ pos slack = ap (λ (z : ℤ). z *ℤ to) (sym f) ∙ paid in
    let n = numbers t boxes bound least spread (c *ℤ at) to full slack of_t from_is p paid_t l w in
    let span = between t boxes at to (subst IsValid g valid) n.above (subst (λ (r : Ranges). low_of r ≤ℤ at) g low) (subst (λ (r : Ranges). at ≤ℤ high_of r) g high)
    (λ k. up (subst (λ (z : ℤ). pos 0 ≤ℤ z) (sym f) k)) (λ k. down (subst (λ (z : ℤ). z <ℤ pos 0) (sym f) k)) in
    let lows = ap (λ (r : Ranges). low_of r) g in let highs = ap (λ (r : Ranges). high_of r) g in
    let first = rise_first ts boxes index to h in
    let n' = subst (λ (u : ℤ × ℕ). AreNumbers u boxes bound least to slack) e n in
    let span' = subst (λ (u : ℤ × ℕ). IsBetween u boxes to) e span in
    record {
      owed = let o = n'.owed in rw (first, sym m) o;
      above = λ k. n'.above;
      below = λ k. n'.below;
      low = λ k. span'.low;
      high = λ k. span'.high;
    }

-- how far the term falls from its greatest to its least
pub spread_is : (ts : List (ℤ × ℕ)) (boxes : Boxes) (index : ℕ) (t : ℤ × ℕ) (c at end spread : ℤ) (b : Ranges) → t ≡ term_at ts index → c ≡ t.0 → b ≡ box_of boxes t.1 →
    spread_of (term_at ts index) boxes ≡ spread → c *ℤ at ≡ greatest_at c b → c *ℤ end ≡ least_at c b → (c *ℤ at) -ℤ (c *ℤ end) ≡ spread
spread_is ts boxes index t c at end spread b e f g s p q =
    let of_t : spread_of t boxes ≡ spread = ap (λ (u : ℤ × ℕ). spread_of u boxes) e ∙ s in
    let high : greatest_at c b ≡ greatest_term t boxes = ap (λ (z : ℤ). greatest_at z b) f ∙ ap (λ (r : Ranges). greatest_at t.0 r) g ∙ greatest_is t boxes in
    let low : least_at c b ≡ least_term t boxes = ap (λ (z : ℤ). least_at z b) f ∙ ap (λ (r : Ranges). least_at t.0 r) g ∙ least_is t boxes in
    let is : spread ≡ greatest_term t boxes -ℤ least_term t boxes = sym of_t in
    omega (arith, ints)

pub factor_some : (ts : List (ℤ × ℕ)) (boxes : Boxes) (index : ℕ) (t : ℤ × ℕ) (c at spread : ℤ) (b : Ranges) → t ≡ term_at ts index → c ≡ t.0 → b ≡ box_of boxes t.1 →
    spread_of (term_at ts index) boxes ≡ spread → pos 0 <ℤ spread → c *ℤ at ≡ greatest_at c b → 0 < unsigned_abs c
factor_some ts boxes index t c at spread b e f g s p q =
    let of_t : spread_of t boxes ≡ spread = ap (λ (u : ℤ × ℕ). spread_of u boxes) e ∙ s in
    let high : greatest_at c b ≡ greatest_term t boxes = ap (λ (z : ℤ). greatest_at z b) f ∙ ap (λ (r : Ranges). greatest_at t.0 r) g ∙ greatest_is t boxes in
    let low : least_at c b ≡ least_term t boxes = ap (λ (z : ℤ). least_at z b) f ∙ ap (λ (r : Ranges). least_at t.0 r) g ∙ least_is t boxes in
    let is : spread ≡ greatest_term t boxes -ℤ least_term t boxes = sym of_t in
    some_factor c (low_of b) (high_of b) at (omega (arith, ints))
