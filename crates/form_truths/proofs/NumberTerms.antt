-- A number at a flag, as a term.
use Rattle.std.proofs.Common.{◌≡◌, ℕ, zero, suc, negsuc, ◌^◌, ◌*◌, ◌≤◌, max, Bool, true, false, cond, List, [], ℤ, pos, ◌*ℤ◌, ◌+ℤ◌, ◌≤ℤ◌, unsigned_abs, refl, sym, ap, ◌∙◌, subst, arith}
use Rattle.std.specs.Int.{int_max, int_min}
use Rattle.std.proofs.lemmas.Int.{ints, clamps}
use Rattle.std.proofs.Math.IntN.{one, *ℤ-one, *ℤ-zero}
use Rattle.std.proofs.Math.Nat.{mul-le-mul_left}
use Rattle.signed_clause.specs.Ranges.{Ranges}
use Rattle.signed_clause.specs.Clauses.{Boxes}
use Rattle.ground_form.specs.Meaning.{bit, sum_at}
use Rattle.ground_form.specs.Bounds.{low_of, high_of, reach_of, least_sum, greatest_sum, LiesWithin}
use Rattle.form_build.specs.declared.form.Linear.{Linear}
use Rattle.form_build.specs.Forms.{linear_at}
use Rattle.form_build.specs.Sums.{least_linear, greatest_linear, IsLinear, LiesFrom, IsSum, AreTerms, AreNumbersWithin}
use Rattle.ground_form.specs.declared.ground.Ground.{Ground}
use Rattle.form_build.specs.Worlds.{Grows}
use Rattle.form_build.proofs.Keeping.{lies_kept}
use Rattle.form_build.proofs.Linears.{numbers_within}

times_one : (c : ℤ) → (c *ℤ pos 1) ≡ c
unfolding one
times_one c = *ℤ-one c

pub number_value : (f : Linear) (a : List ℤ) (b : Bool) (c v : ℤ) → f.terms ≡ [] → c ≡ f.offset → v ≡ bit b → (c *ℤ v) ≡ cond b (linear_at f a) (pos 0)
number_value f a true c v e k h =
    let terms = ap (λ (z : List (ℤ × ℕ)). sum_at z a) e in
    let unit = times_one c in
    ap (λ (z : ℤ). c *ℤ z) h ∙ omega (arith, ints, terms, unit, k)
number_value f a false c v e k h = ap (λ (z : ℤ). c *ℤ z) h ∙ *ℤ-zero c

data End (v : ℤ) : Type 0 where
  at_nought : v ≡ pos 0 → End v
  at_one : v ≡ pos 1 → End v

is_end : (v : ℤ) → pos 0 ≤ℤ v → v ≤ℤ pos 1 → End v
is_end (pos zero) h k = at_nought refl
is_end (pos (suc zero)) h k = at_one refl
is_end (pos (suc (suc n))) h k = absurd (omega (arith, ints, k))
is_end (negsuc n) h k = absurd (omega (arith, ints, h))

end_spans : (c v : ℤ) → End v → (int_min (pos 0) c ≤ℤ (c *ℤ v)) × ((c *ℤ v) ≤ℤ int_max (pos 0) c)
end_spans c v (at_nought e) =
    let is = ap (λ (z : ℤ). c *ℤ z) e in let nil = *ℤ-zero c in
    (omega (arith, ints, clamps, is, nil), omega (arith, ints, clamps, is, nil))
end_spans c v (at_one e) =
    let is = ap (λ (z : ℤ). c *ℤ z) e in let unit = times_one c in
    (omega (arith, ints, clamps, is, unit), omega (arith, ints, clamps, is, unit))

flag_reach : (box : Ranges) → LiesWithin (pos 0) (pos 1) box → low_of box ≤ℤ high_of box → reach_of box ≤ 1
flag_reach box h o = omega (arith, ints, h.0, h.1, o)

size_within : (m r : ℕ) → r ≤ 1 → m ≤ 2 ^ 58 → m * r ≤ 2 ^ 58
size_within m r h k = let p : m * r ≤ m * 1 = mul-le-mul_left m h in omega (arith, p, k)

pub number_sum : (boxes : Boxes) (box : Ranges) (f one r : Linear) (c : ℤ) → LiesWithin (pos 0) (pos 1) box → low_of box ≤ℤ high_of box → f.terms ≡ [] → c ≡ f.offset → unsigned_abs f.offset ≤ 2 ^ 58 → LiesFrom (low_of box) (high_of box) boxes one → least_linear one boxes ≤ℤ greatest_linear one boxes → IsLinear (unsigned_abs c * reach_of box) boxes r →
    int_min (c *ℤ least_linear one boxes) (c *ℤ greatest_linear one boxes) ≤ℤ least_linear r boxes → greatest_linear r boxes ≤ℤ int_max (c *ℤ least_linear one boxes) (c *ℤ greatest_linear one boxes) → IsSum boxes (int_min (pos 0) (least_linear f boxes)) (int_max (pos 0) (greatest_linear f boxes)) r
number_sum boxes box f one r c flag order nil e small lies inner linear low high =
    let least = ap (λ (z : List (ℤ × ℕ)). least_sum z boxes) nil in
    let greatest = ap (λ (z : List (ℤ × ℕ)). greatest_sum z boxes) nil in
    let size = ap unsigned_abs e in
    let first = end_spans c (least_linear one boxes) (is_end (least_linear one boxes) (omega (arith, ints, flag.0, lies.low_is)) (omega (arith, ints, flag.1, lies.high_is, inner))) in
    let last = end_spans c (greatest_linear one boxes) (is_end (greatest_linear one boxes) (omega (arith, ints, flag.0, lies.low_is, inner)) (omega (arith, ints, flag.1, lies.high_is))) in
    let bound = size_within (unsigned_abs c) (reach_of box) (flag_reach box flag order) (omega (arith, size, small)) in
    record {
      linear = record { terms = linear.terms; bounded = omega (arith, bound, linear.bounded) };
      lies = record {
        low_is = omega (arith, ints, clamps, low, first.0, last.0, least, e);
        high_is = omega (arith, ints, clamps, high, first.1, last.1, greatest, e);
      };
    }

-- ---- numbers of a flag's sum

flag_linear : (boxes : Boxes) (box : Ranges) (f : Linear) → LiesWithin (pos 0) (pos 1) box → low_of box ≤ℤ high_of box → IsLinear (reach_of box) boxes f → AreNumbersWithin 1 1 f
flag_linear boxes box f flag order h = numbers_within boxes (reach_of box) 1 f (flag_reach box flag order) h

times_within : (k m : ℕ) → k ≤ 2 ^ 58 → 1 * m ≤ 1 → k * m ≤ 2 ^ 62
times_within k m h e = let p : k * m ≤ k * 1 = mul-le-mul_left k (omega (arith, e)) in omega (arith, p, h)

pub numbers_scaled : (boxes : Boxes) (box : Ranges) (f : Linear) (k : ℕ) → LiesWithin (pos 0) (pos 1) box → low_of box ≤ℤ high_of box → IsLinear (reach_of box) boxes f → k ≤ 2 ^ 58 → AreNumbersWithin k (2 ^ 62) f
numbers_scaled boxes box f k flag order h small =
    let one = flag_linear boxes box f flag order h in
    record {
      terms = λ j d lt. times_within k _ small (one.terms j d lt);
      offset = times_within k _ small one.offset;
    }

-- ---- ends over a problem that grew

pub ends_kept : (old new : Ground) (f : Linear) → Grows old new → AreTerms old.domains 0 f.terms → LiesFrom (least_linear f old.domains) (greatest_linear f old.domains) new.domains f
ends_kept old new f g h = lies_kept (least_linear f old.domains) (greatest_linear f old.domains) old new f g h (record { low_is = omega (arith, ints); high_is = omega (arith, ints) })

pub wider_least : (low low' : ℤ) → low ≤ℤ low' → int_min (pos 0) low ≤ℤ int_min (pos 0) low'
wider_least low low' h = omega (arith, ints, clamps, h)

pub wider_greatest : (high high' : ℤ) → high ≤ℤ high' → int_max (pos 0) high ≤ℤ int_max (pos 0) high'
wider_greatest high high' h = omega (arith, ints, clamps, h)
