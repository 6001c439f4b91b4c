-- Sums of one term, as lines over the values of their variable.
use Rattle.std.proofs.Common.{◌≡◌, ◌≢◌, ℕ, ◌*◌, ◌^◌, ◌<◌, ◌≤◌, true, List, [], ◌∷◌, ℤ, pos, ◌+ℤ◌, ◌-ℤ◌, unsigned_abs, length, refl, ap, subst, arith}
use Rattle.std.specs.Prelude.{int_le}
use Rattle.std.specs.Ordering.{int_eq}
use Rattle.std.proofs.lemmas.Int.{ints}
use Rattle.std.proofs.Math.Nat.{mul-le-mul_left, mul-le-mul_right}
use Rattle.signed_clause.specs.Ranges.{Ranges, has, in_range, IsValid}
use Rattle.signed_clause.specs.Clauses.{Boxes, box_of}
use Rattle.ground_form.specs.Meaning.{value_of, sum_at}
use Rattle.ground_form.specs.Bounds.{low_of, high_of, reach_of, term_weight, weight_of}
use Rattle.ground_form.proofs.Ends.{low_le, le_high}
use Rattle.form_build.specs.declared.form.Linear.{Linear}
use Rattle.form_build.specs.Forms.{linear_at}
use Rattle.form_build.specs.Sums.{IsOpen, AreTerms, IsLinear}
use Rattle.form_build.proofs.Singles.{ends_ordered}
use Rattle.form_truths.specs.declared.lines.Line.{Line}
use Rattle.form_truths.specs.declared.lines.Span.{Span}
use Rattle.form_truths.specs.Lines.{line_at, IsSpan, LiesIn, IsLineOf, IsLineOver}

pub span_ordered : (s : Span) (box : Ranges) → s.low ≡ low_of box → s.high ≡ high_of box → IsValid box → IsSpan s
span_ordered s box e f v = let o = ends_ordered box v in omega (arith, ints, e, f, o)

pub value_in : (s : Span) (box : Ranges) (v : ℤ) → s.low ≡ low_of box → s.high ≡ high_of box → IsValid box → has box v ≡ true → LiesIn s v
value_in s box v e f valid h =
    let low = low_le box v valid h in
    let high = le_high box v valid h in
    (omega (arith, ints, e, low), omega (arith, ints, f, high))

-- ---- the sum is the line

pub line_sum : (l : Line) (x : ℕ) (f : Linear) (a : List ℤ) → IsLineOf l x f → line_at l (value_of a x) ≡ linear_at f a
line_sum l x f a is =
    let terms = ap (λ (z : List (ℤ × ℕ)). sum_at z a) is.terms in
    omega (arith, ints, terms, is.offset)

own_terms : (l : Line) (x : ℕ) (f : Linear) (boxes : Boxes) → IsLineOf l x f → AreTerms boxes 0 f.terms → AreTerms boxes 0 ((l.factor, x) ∷ [])
own_terms l x f boxes is h = subst (λ (z : List (ℤ × ℕ)). AreTerms boxes 0 z) is.terms h

pub line_there : (l : Line) (x : ℕ) (f : Linear) (boxes : Boxes) (n : ℕ) → IsLineOf l x f → IsLinear n boxes f → x < length boxes
line_there l x f boxes n is h = (own_terms l x f boxes is h.terms).1

one_weight : (c : ℤ) (x : ℕ) (boxes : Boxes) → term_weight (c, x) boxes ≡ unsigned_abs c * reach_of (box_of boxes x)
unfolding term_weight
one_weight c x boxes = refl

some_factor : (c : ℤ) → c ≢ pos 0 → 0 < unsigned_abs c
some_factor c h = grind (arith, ints)

lines_numbers : (c m r n : ℕ) → 0 < c → m ≤ r → 1 ≤ r → c * r ≤ n → (c ≤ n) × (m ≤ n) × (c * m ≤ n)
lines_numbers c m r n some le one h =
    let a : c * 1 ≤ c * r = mul-le-mul_left c one in
    let b : c * m ≤ c * r = mul-le-mul_left c le in
    let d : 1 * m ≤ c * m = mul-le-mul_right m (omega (arith, some)) in
    (omega (arith, a, h), omega (arith, d, b, h), omega (arith, b, h))

pub line_over : (l : Line) (x : ℕ) (f : Linear) (boxes : Boxes) → IsLineOf l x f → IsLinear (2 ^ 60) boxes f → IsLineOver boxes x l
line_over l x f boxes is h s e k =
    let own = own_terms l x f boxes is h.terms in
    let weight = ap (λ (z : List (ℤ × ℕ)). weight_of z boxes) is.terms in
    let one = one_weight l.factor x boxes in
    let some = some_factor l.factor own.2 in
    let wide : IsOpen (box_of boxes x) = own.3 in
    let size : unsigned_abs l.factor * reach_of (box_of boxes x) ≤ 2 ^ 60 = omega (arith, weight, one, h.bounded) in
    let far : 1 ≤ reach_of (box_of boxes x) = omega (arith, ints, wide) in
    let left = ap unsigned_abs e in
    let right = ap unsigned_abs k in
    let low = lines_numbers (unsigned_abs l.factor) (unsigned_abs s.low) (reach_of (box_of boxes x)) (2 ^ 60) some (omega (arith, left)) far size in
    let high = lines_numbers (unsigned_abs l.factor) (unsigned_abs s.high) (reach_of (box_of boxes x)) (2 ^ 60) some (omega (arith, right)) far size in
    let same = ap unsigned_abs is.offset in
    record {
      factor = some;
      size = low.0;
      offset = omega (arith, same, h.bounded);
      low = low.1;
      high = high.1;
      at_low = low.2;
      at_high = high.2;
    }

-- ---- sums of no term, and of several

pub number_sum : (f : Linear) (a : List ℤ) → f.terms ≡ [] → f.offset ≡ linear_at f a
number_sum f a e = let terms = ap (λ (z : List (ℤ × ℕ)). sum_at z a) e in omega (arith, ints, terms)

pub below_bound : (ts : List (ℤ × ℕ)) (f : Linear) (bound : ℤ) (a : List ℤ) → ts ≡ f.terms → bound ≡ (pos 0 -ℤ f.offset) → int_le (sum_at ts a) bound ≡ int_le (linear_at f a) (pos 0)
below_bound ts f bound a e h =
    let terms = ap (λ (z : List (ℤ × ℕ)). sum_at z a) e in
    moved (sum_at ts a) (sum_at f.terms a) f.offset bound terms h
  where
    moved : (s t d b : ℤ) → s ≡ t → b ≡ (pos 0 -ℤ d) → int_le s b ≡ int_le (t +ℤ d) (pos 0)
    moved s t d b e h = grind (arith, ints)

pub only_nought : (v s : ℤ) → v ≡ s → in_range (pos 0, pos 0) v ≡ int_eq s (pos 0)
only_nought v s e = grind (arith, ints)
