-- Intervals of quantifiers, which lie within 2^50.
use Rattle.std.proofs.Common.{◌≡◌, ℕ, ◌^◌, ◌<◌, ◌≤◌, true, ◌&&◌, List, ℤ, pos, neg_ℤ, ◌*ℤ◌, ◌≤ℤ◌, int_le, length, get_or, refl, sym, ap, ◌∙◌, subst, arith}
use Rattle.std.specs.List.{All}
use Rattle.std.specs.Int.{int_max, int_min}
use Rattle.std.proofs.lemmas.Bool.{and_parts}
use Rattle.std.proofs.lemmas.Int.{ints, clamps}
use Rattle.std.proofs.Math.IntN.{one, *ℤ-one, *ℤ-zero}
use Rattle.conf_syntax.specs.declared.tree.QuantKind.{QuantKind}
use Rattle.conf_syntax.specs.declared.tree.QuantKind.TheVariants as kind
use Rattle.conf_limits.specs.declared.interval.Interval.{Interval}
use Rattle.conf_limits.specs.Measures.{many, quantifier_interval, is_near, is_narrow}
use Rattle.signed_clause.specs.Clauses.{Boxes}
use Rattle.ground_form.specs.declared.ground.Ground.{Ground}
use Rattle.form_build.specs.declared.form.Linear.{Linear}
use Rattle.form_build.specs.Sums.{IsSum, LiesFrom, least_linear, greatest_linear}
use Rattle.form_build.specs.Worlds.{Grows}
use Rattle.form_build.proofs.Keeping.{sum_kept}
use Rattle.form_build.proofs.Linears.{sum_wider}
use Rattle.quantifier_forms.specs.declared.part.Part.{Part}
use Rattle.quantifier_forms.specs.PartValues.{first_number}
use Rattle.quantifier_forms.specs.Quantified.{IsPart, IsNarrow, AreParts, adds_up, share_interval}
use Rattle.quantifier_forms.specs.Totals.{AreSummands}
use Rattle.quantifier_forms.proofs.PartsKept.{part_at}
use Rattle.quantifier_forms.proofs.SumLaws.{multiple_below, multiple_above, once, fewer_below, fewer_above}

-- ---- narrow

at_most : (a b : ℤ) → int_le a b ≡ true → a ≤ℤ b
at_most a b h = grind (arith, ints)

at_most_true : (a b : ℤ) → a ≤ℤ b → int_le a b ≡ true
at_most_true a b h = grind (arith, ints)

near_low : (v : ℤ) → is_near v ≡ true → neg_ℤ (pos (2 ^ 50)) ≤ℤ v
near_low v h = at_most (neg_ℤ (pos (2 ^ 50))) v (and_parts (int_le (neg_ℤ (pos (2 ^ 50))) v) (int_le v (pos (2 ^ 50))) h).0

near_high : (v : ℤ) → is_near v ≡ true → v ≤ℤ pos (2 ^ 50)
near_high v h = at_most v (pos (2 ^ 50)) (and_parts (int_le (neg_ℤ (pos (2 ^ 50))) v) (int_le v (pos (2 ^ 50))) h).1

-- the ends of a narrow interval
pub record AreNear (i : Interval) : Type 0 where
  pub low_low : neg_ℤ (pos (2 ^ 50)) ≤ℤ i.low
  pub low_high : i.low ≤ℤ pos (2 ^ 50)
  pub high_low : neg_ℤ (pos (2 ^ 50)) ≤ℤ i.high
  pub high_high : i.high ≤ℤ pos (2 ^ 50)

pub near_ends : (i : Interval) → is_narrow i ≡ true → AreNear i
near_ends i h =
    let p = and_parts (is_near i.low) (is_near i.high) h in
    record { low_low = near_low i.low p.0; low_high = near_high i.low p.0; high_low = near_low i.high p.1; high_high = near_high i.high p.1 }

both_true : (a b : ℤ) (c d : ℤ) → a ≤ℤ b → c ≤ℤ d → (int_le a b && int_le c d) ≡ true
both_true a b c d h k = ap (λ x. x && int_le c d) (at_most_true a b h) ∙ at_most_true c d k

near_is : (v : ℤ) → neg_ℤ (pos (2 ^ 50)) ≤ℤ v → v ≤ℤ pos (2 ^ 50) → is_near v ≡ true
near_is v h k = both_true (neg_ℤ (pos (2 ^ 50))) v v (pos (2 ^ 50)) h k

pub narrow_is : (i : Interval) → AreNear i → is_narrow i ≡ true
narrow_is i h = ap (λ x. x && is_near i.high) (near_is i.low h.low_low h.low_high) ∙ near_is i.high h.high_low h.high_high

-- ---- of fewer members

below : (v : ℤ) → int_min v (pos 0) ≤ℤ pos 0
below v = omega (arith, ints, clamps)

above : (v : ℤ) → pos 0 ≤ℤ int_max v (pos 0)
above v = omega (arith, ints, clamps)

many_fewer : (m n : ℕ) (i : Interval) → m ≤ n → is_narrow (many n i) ≡ true → is_narrow (many m i) ≡ true
many_fewer m n i le h =
    let near = near_ends (many n i) h in
    let low = fewer_below m n (int_min i.low (pos 0)) le (below i.low) in
    let high = fewer_above m n (int_max i.high (pos 0)) le (above i.high) in
    let none_low = multiple_below m (int_min i.low (pos 0)) (below i.low) in
    let none_high = multiple_above m (int_max i.high (pos 0)) (above i.high) in
    narrow_is (many m i) (record {
      low_low = omega (arith, ints, low, near.low_low);
      low_high = omega (arith, ints, none_low);
      high_low = omega (arith, ints, none_high);
      high_high = omega (arith, ints, high, near.high_high);
    })

-- a quantifier over fewer members is narrow too
pub narrow_fewer : (q : QuantKind) (m n : ℕ) (first second : Interval) → m ≤ n → is_narrow (quantifier_interval q n first second) ≡ true → is_narrow (quantifier_interval q m first second) ≡ true
narrow_fewer kind.Sum m n first second le h = many_fewer m n first le h
narrow_fewer kind.Pack m n first second le h = many_fewer m n second le h
narrow_fewer kind.Count m n first second le h =
    let near = near_ends (quantifier_interval kind.Count n first second) h in
    narrow_is (quantifier_interval kind.Count m first second) (record { low_low = omega (arith, ints); low_high = omega (arith, ints); high_low = omega (arith, ints); high_high = omega (arith, ints, near.high_high, le) })
narrow_fewer kind.Forall m n first second le h = h
narrow_fewer kind.Exists m n first second le h = h
narrow_fewer kind.AllDifferent m n first second le h = h

-- ---- one part, and all

-- the first body of each of n parts is narrow, if there is one
pub first_narrow : (boxes : Boxes) (n : ℕ) (first : Interval) (f : Linear) → 1 ≤ n → is_narrow (many n first) ≡ true → IsSum boxes first.low first.high f → IsNarrow boxes f
first_narrow boxes n first f some h s =
    let near = near_ends (many n first) h in
    let low = fewer_below 1 n (int_min first.low (pos 0)) some (below first.low) in
    let high = fewer_above 1 n (int_max first.high (pos 0)) some (above first.high) in
    let one_low = once (int_min first.low (pos 0)) in
    let one_high = once (int_max first.high (pos 0)) in
    sum_wider boxes first.low first.high (neg_ℤ (pos (2 ^ 50))) (pos (2 ^ 50)) f
    (omega (arith, ints, clamps, low, one_low, near.low_low))
    (omega (arith, ints, clamps, high, one_high, near.high_high))
    s

times_none : (n : ℕ) → (pos n *ℤ pos 0) ≡ pos 0
times_none n = *ℤ-zero (pos n)

times_one : (n : ℕ) → (pos n *ℤ pos 1) ≡ pos n
unfolding one
times_one n = *ℤ-one (pos n)

-- the interval of a quantifier is as many times that of a share
pub low_is : (q : QuantKind) (n : ℕ) (first second : Interval) → adds_up q ≡ true → (quantifier_interval q n first second).low ≡ (pos n *ℤ (share_interval q first).low)
low_is kind.Sum n first second h = refl
low_is kind.Count n first second h = sym (times_none n)
low_is kind.Forall n first second h = absurd cc
low_is kind.Exists n first second h = absurd cc
low_is kind.AllDifferent n first second h = absurd cc
low_is kind.Pack n first second h = absurd cc

pub high_is : (q : QuantKind) (n : ℕ) (first second : Interval) → adds_up q ≡ true → (quantifier_interval q n first second).high ≡ (pos n *ℤ (share_interval q first).high)
high_is kind.Sum n first second h = refl
high_is kind.Count n first second h = sym (times_one n)
high_is kind.Forall n first second h = absurd cc
high_is kind.Exists n first second h = absurd cc
high_is kind.AllDifferent n first second h = absurd cc
high_is kind.Pack n first second h = absurd cc

pub share_below : (q : QuantKind) (first : Interval) → (share_interval q first).low ≤ℤ pos 0
share_below kind.Sum first = below first.low
share_below kind.Count first = omega (arith, ints)
share_below kind.Forall first = omega (arith, ints)
share_below kind.Exists first = omega (arith, ints)
share_below kind.AllDifferent first = omega (arith, ints)
share_below kind.Pack first = omega (arith, ints)

pub share_above : (q : QuantKind) (first : Interval) → pos 0 ≤ℤ (share_interval q first).high
share_above kind.Sum first = above first.high
share_above kind.Count first = omega (arith, ints)
share_above kind.Forall first = omega (arith, ints)
share_above kind.Exists first = omega (arith, ints)
share_above kind.AllDifferent first = omega (arith, ints)
share_above kind.Pack first = omega (arith, ints)

-- what the parts add can be added up
pub shares_are : (old new : Boxes) (q : QuantKind) (ps : List Part) (fs : List Linear) → adds_up q ≡ true → AreParts old q ps → length fs ≡ length ps → ((first : Interval) → All (IsPart old first) ps → All (IsSum new (share_interval q first).low (share_interval q first).high) fs) → AreSummands new fs
shares_are old new q ps fs h parts same sums =
    let near = near_ends (quantifier_interval q (length ps) parts.first parts.second) parts.narrow in
    let low = low_is q (length ps) parts.first parts.second h in
    let high = high_is q (length ps) parts.first parts.second h in
    let low_same = ap (λ n. pos n *ℤ (share_interval q parts.first).low) same in
    let high_same = ap (λ n. pos n *ℤ (share_interval q parts.first).high) same in
    record {
      low = (share_interval q parts.first).low;
      high = (share_interval q parts.first).high;
      below = share_below q parts.first;
      above = share_above q parts.first;
      sums = sums parts.first parts.parts;
      narrow_low = omega (arith, ints, near.low_low, low, low_same);
      narrow_high = omega (arith, ints, near.high_high, high, high_same);
    }

-- the sum of the shares of at most n parts lies in the quantifier's interval over n
pub sum_at_most : (boxes : Boxes) (q : QuantKind) (m n : ℕ) (first second : Interval) (r : Linear) → adds_up q ≡ true → m ≤ n → IsSum boxes (pos m *ℤ (share_interval q first).low) (pos m *ℤ (share_interval q first).high) r → IsSum boxes (quantifier_interval q n first second).low (quantifier_interval q n first second).high r
sum_at_most boxes q m n first second r h le s =
    let low = low_is q n first second h in
    let high = high_is q n first second h in
    let less = fewer_below m n (share_interval q first).low le (share_below q first) in
    let more = fewer_above m n (share_interval q first).high le (share_above q first) in
    sum_wider boxes _ _ (quantifier_interval q n first second).low (quantifier_interval q n first second).high r
    (omega (arith, ints, low, less))
    (omega (arith, ints, high, more))
    s

-- ---- the sum of one part

pub turned_round : (boxes : Boxes) (low high : ℤ) (r : Linear) → IsSum boxes (int_min (pos 0) low) (int_max (pos 0) high) r → IsSum boxes (int_min low (pos 0)) (int_max high (pos 0)) r
turned_round boxes low high r s =
    sum_wider boxes (int_min (pos 0) low) (int_max (pos 0) high) (int_min low (pos 0)) (int_max high (pos 0)) r (omega (arith, ints, clamps)) (omega (arith, ints, clamps)) s

-- the first body where the part is kept, within the interval of the first body and 0
pub first_share : (old new : Boxes) (first : Interval) (p : Part) (f r : Linear) → f ≡ first_number p.bodies.items → IsSum new (int_min (least_linear f old) (pos 0)) (int_max (greatest_linear f old) (pos 0)) r → IsPart old first p → IsSum new (int_min first.low (pos 0)) (int_max first.high (pos 0)) r
first_share old new first p f r e s h =
    let lies = (subst (IsSum old first.low first.high) (sym e) h.first_is).lies in
    sum_wider new _ _ (int_min first.low (pos 0)) (int_max first.high (pos 0)) r
    (omega (arith, ints, clamps, lies.low_is))
    (omega (arith, ints, clamps, lies.high_is))
    s

-- 1 where something holds, and 0 elsewhere
pub one_share : (old new : Boxes) (one r : Linear) → LiesFrom (pos 1) (pos 1) old one → IsSum new (int_min (least_linear one old) (pos 0)) (int_max (greatest_linear one old) (pos 0)) r → IsSum new (pos 0) (pos 1) r
one_share old new one r lies s =
    sum_wider new _ _ (pos 0) (pos 1) r
    (omega (arith, ints, clamps, lies.low_is))
    (omega (arith, ints, clamps, lies.high_is))
    s

-- a part of a sum has a first body that is narrow
pub narrow_number : (old new : Ground) (q : QuantKind) (ps : List Part) (k : ℕ) (p : Part) → Grows old new → AreParts old.domains q ps → k < length ps → p ≡ get_or ps k p → q ≡ kind.Sum → IsNarrow new.domains (first_number p.bodies.items)
narrow_number old new q ps k p g h lt e is =
    let narrow = subst (λ z. is_narrow (quantifier_interval z (length ps) h.first h.second) ≡ true) is h.narrow in
    let part = part_at (IsPart old.domains h.first) ps k p h.parts lt e in
    sum_kept (neg_ℤ (pos (2 ^ 50))) (pos (2 ^ 50)) old new (first_number p.bodies.items) g
    (first_narrow old.domains (length ps) h.first (first_number p.bodies.items) (omega (arith, lt)) narrow part.first_is)

-- all shares together lie in the quantifier's interval over as many members, or more
pub sum_over : (old new : Boxes) (q : QuantKind) (fs : List Linear) (m n : ℕ) (first second : Interval) (r : Linear) → adds_up q ≡ true → length fs ≡ m → m ≤ n → ((low high : ℤ) → All (IsSum old low high) fs → IsSum new (pos (length fs) *ℤ low) (pos (length fs) *ℤ high) r) → All (IsSum old (share_interval q first).low (share_interval q first).high) fs →
    IsSum new (quantifier_interval q n first second).low (quantifier_interval q n first second).high r
sum_over old new q fs m n first second r h size le both sums =
    sum_at_most new q (length fs) n first second r h (omega (arith, size, le)) (both (share_interval q first).low (share_interval q first).high sums)
