-- Intervals of sums, products and counts.
use Rattle.std.proofs.Common.{◌≡◌, ℕ, zero, suc, ◌+◌, ◌*◌, ◌≤◌, Bool, true, false, cond, List, [], ◌∷◌, length, ℤ, pos, negsuc, ◌+ℤ◌, ◌*ℤ◌, ◌≤ℤ◌, ap, arith}
use Rattle.std.specs.Prelude.{All}
use Rattle.std.specs.Int.{int_max, int_min}
use Rattle.std.proofs.lemmas.Int.{ints, clamps}
use Rattle.std.proofs.lemmas.List.Elements.{All-head, All-tail}
use Rattle.std.proofs.Math.IntN.{pos-*ℤ-pos, pos-*ℤ-negsuc, negsuc-*ℤ-pos, negsuc-*ℤ-negsuc}
use Rattle.std.proofs.Math.Nat.{mul-le-mul_left}
use Rattle.conf_eval.specs.Fitting.{IsWithin}
use Rattle.conf_eval.specs.Meaning.{total}
use Rattle.conf_limits.specs.declared.interval.Interval.{Interval}
use Rattle.conf_limits.specs.Measures.{times, many}

-- Products

mul_up : (n : ℕ) (x y : ℤ) → x ≤ℤ y → (pos n *ℤ x) ≤ℤ (pos n *ℤ y)
mul_up n (pos a) (pos b) h =
    let k : a ≤ b = omega (arith, ints) in let m : n * a ≤ n * b = mul-le-mul_left n k in
    rw (pos-*ℤ-pos n a, pos-*ℤ-pos n b) (omega (arith, ints))
mul_up n (pos a) (negsuc b) h = absurd (omega (arith, ints))
mul_up n (negsuc a) (pos b) h = rw (pos-*ℤ-negsuc n a, pos-*ℤ-pos n b) (omega (arith, ints))
mul_up n (negsuc a) (negsuc b) h =
    let k : suc b ≤ suc a = omega (arith, ints) in let m : n * suc b ≤ n * suc a = mul-le-mul_left n k in
    rw (pos-*ℤ-negsuc n a, pos-*ℤ-negsuc n b) (omega (arith, ints))

mul_down : (n : ℕ) (x y : ℤ) → x ≤ℤ y → (negsuc n *ℤ y) ≤ℤ (negsuc n *ℤ x)
mul_down n (pos a) (pos b) h =
    let k : a ≤ b = omega (arith, ints) in let m : suc n * a ≤ suc n * b = mul-le-mul_left (suc n) k in
    rw (negsuc-*ℤ-pos n a, negsuc-*ℤ-pos n b) (omega (arith, ints))
mul_down n (pos a) (negsuc b) h = absurd (omega (arith, ints))
mul_down n (negsuc a) (pos b) h = rw (negsuc-*ℤ-negsuc n a, negsuc-*ℤ-pos n b) (omega (arith, ints))
mul_down n (negsuc a) (negsuc b) h =
    let k : suc b ≤ suc a = omega (arith, ints) in let m : suc n * suc b ≤ suc n * suc a = mul-le-mul_left (suc n) k in
    rw (negsuc-*ℤ-negsuc n a, negsuc-*ℤ-negsuc n b) (omega (arith, ints))

-- a product lies between those at the ends
mul_least : (c low high v : ℤ) → low ≤ℤ v → v ≤ℤ high → int_min (c *ℤ low) (c *ℤ high) ≤ℤ (c *ℤ v)
mul_least (pos n) low high v h k = let m = mul_up n low v h in omega (arith, ints, clamps)
mul_least (negsuc n) low high v h k = let m = mul_down n v high k in omega (arith, ints, clamps)

mul_greatest : (c low high v : ℤ) → low ≤ℤ v → v ≤ℤ high → (c *ℤ v) ≤ℤ int_max (c *ℤ low) (c *ℤ high)
mul_greatest (pos n) low high v h k = let m = mul_up n v high k in omega (arith, ints, clamps)
mul_greatest (negsuc n) low high v h k = let m = mul_down n low v h in omega (arith, ints, clamps)

mul_turned : (x y : ℤ) → (x *ℤ y) ≡ (y *ℤ x)
mul_turned (pos a) (pos b) = rw (pos-*ℤ-pos a b, pos-*ℤ-pos b a) (omega (arith, ints))
mul_turned (pos a) (negsuc b) = rw (pos-*ℤ-negsuc a b, negsuc-*ℤ-pos b a) (omega (arith, ints))
mul_turned (negsuc a) (pos b) = rw (negsuc-*ℤ-pos a b, pos-*ℤ-negsuc b a) (omega (arith, ints))
mul_turned (negsuc a) (negsuc b) = rw (negsuc-*ℤ-negsuc a b, negsuc-*ℤ-negsuc b a) (omega (arith, ints))

pub times_within : (i j : Interval) (v w : ℤ) → IsWithin i v → IsWithin j w → IsWithin (times i j) (v *ℤ w)
times_within i j v w a b =
    let t = mul_turned v w in
    let tl = mul_turned v j.low in
    let th = mul_turned v j.high in
    let ll = mul_turned i.low j.low in
    let lh = mul_turned i.low j.high in
    let hl = mul_turned i.high j.low in
    let hh = mul_turned i.high j.high in
    let m = mul_least v j.low j.high w b.low b.high in
    let g = mul_greatest v j.low j.high w b.low b.high in
    let m1 = mul_least j.low i.low i.high v a.low a.high in
    let m2 = mul_least j.high i.low i.high v a.low a.high in
    let g1 = mul_greatest j.low i.low i.high v a.low a.high in
    let g2 = mul_greatest j.high i.low i.high v a.low a.high in
    record { low = omega (arith, ints, clamps); high = omega (arith, ints, clamps) }

-- Sums

mul_next : (r : ℕ) (m : ℤ) → (pos (suc r) *ℤ m) ≡ (m +ℤ (pos r *ℤ m))
mul_next r (pos a) = let e : suc r * a ≡ a + r * a = omega arith in ap (λ n. pos n) e
mul_next r (negsuc a) =
    let e : suc r * suc a ≡ suc a + r * suc a = omega arith in
    let x = pos-*ℤ-negsuc (suc r) a in
    let y = pos-*ℤ-negsuc r a in
    omega (arith, ints, e, x, y)

mul_zero : (r : ℕ) → (pos r *ℤ pos 0) ≡ pos 0
mul_zero r = rw (pos-*ℤ-pos r 0) (omega (arith, ints))

-- what may stand in a sum: a number of the interval, or 0
pub record IsTerm (i : Interval) (v : ℤ) : Type 0 where
  pub low : int_min i.low (pos 0) ≤ℤ v
  pub high : v ≤ℤ int_max i.high (pos 0)

pub term_if : (i : Interval) (b : Bool) (v : ℤ) → IsWithin i v → IsTerm i (cond b v (pos 0))
term_if i true v h = record { low = omega (arith, ints, clamps); high = omega (arith, ints, clamps) }
term_if i false v h = record { low = omega (arith, ints, clamps); high = omega (arith, ints, clamps) }

least_zero : (i : Interval) (r : ℕ) → (many r i).low ≤ℤ pos 0
least_zero i r = let m = mul_up r (int_min i.low (pos 0)) (pos 0) (omega (arith, ints, clamps)) in let z = mul_zero r in omega (arith, ints)

most_zero : (i : Interval) (r : ℕ) → pos 0 ≤ℤ (many r i).high
most_zero i r = let m = mul_up r (pos 0) (int_max i.high (pos 0)) (omega (arith, ints, clamps)) in let z = mul_zero r in omega (arith, ints)

pub zero_within : (i : Interval) (r : ℕ) → IsWithin (many r i) (pos 0)
zero_within i r = record { low = least_zero i r; high = most_zero i r }

-- a sum of at most so many terms
pub total_within : (i : Interval) (r : ℕ) (vs : List ℤ) → length vs ≤ r → All (IsTerm i) vs → IsWithin (many r i) (total vs)
total_within i r [] le h = zero_within i r
total_within i zero (v ∷ vs) le h = absurd (omega (arith, le))
total_within i (suc r) (v ∷ vs) le h =
    let first = All-head (IsTerm i) v vs h in
    let rest = total_within i r vs (omega (arith, le)) (All-tail (IsTerm i) v vs h) in
    let low = mul_next r (int_min i.low (pos 0)) in
    let high = mul_next r (int_max i.high (pos 0)) in
    record {
      low = omega (arith, ints);
      high = omega (arith, ints);
    }
