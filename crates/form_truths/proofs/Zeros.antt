-- Where a line is 0.
use Rattle.std.proofs.Common.{◌≡◌, Bool, true, false, ◌&&◌, Option, Some, None, ℤ, pos, ◌+ℤ◌, ◌-ℤ◌, ◌*ℤ◌, arith, refl, ap, sym, ◌∙◌}
use Rattle.std.specs.Prelude.{int_le, IfSome, IfNone}
use Rattle.std.specs.Int.{int_max, int_min}
use Rattle.std.specs.Ordering.{int_eq}
use Rattle.std.proofs.lemmas.Int.{ints, clamps}
use Rattle.std.proofs.Math.IntN.{zero-*ℤ}
use Rattle.signed_clause.specs.Ranges.{in_range}
use Rattle.form_build.proofs.Distributing.{distribute}
use Rattle.form_truths.specs.declared.lines.Line.{Line}
use Rattle.form_truths.specs.declared.lines.Span.{Span}
use Rattle.form_truths.specs.Lines.{line_at, IsSpan, LiesIn, AreThose}

-- ---- common values

greater_both : (a c v : ℤ) → int_le (int_max a c) v ≡ (int_le a v && int_le c v)
greater_both a c v = grind (arith, ints, clamps)

smaller_both : (b d v : ℤ) → int_le v (int_min b d) ≡ (int_le v b && int_le v d)
smaller_both b d v = grind (arith, ints, clamps)

shuffle : (p q r s : Bool) → ((p && q) && (r && s)) ≡ ((p && r) && (q && s))
shuffle true true r s = refl
shuffle true false true s = refl
shuffle true false false s = refl
shuffle false q r s = refl

pub common_span : (r t u : Span) (v : ℤ) → u.low ≡ int_max r.low t.low → u.high ≡ int_min r.high t.high → in_range (u.low, u.high) v ≡ (in_range (r.low, r.high) v && in_range (t.low, t.high) v)
common_span r t u v e f =
    ap (λ (z : ℤ). int_le z v && int_le v u.high) e
    ∙ ap (λ (z : ℤ). int_le (int_max r.low t.low) v && int_le v z) f
    ∙ ap (λ (b : Bool). b && int_le v (int_min r.high t.high)) (greater_both r.low t.low v)
    ∙ ap (λ (b : Bool). (int_le r.low v && int_le t.low v) && b) (smaller_both r.high t.high v)
    ∙ shuffle (int_le r.low v) (int_le t.low v) (int_le v r.high) (int_le v t.high)

pub no_common : (u : Span) (v : ℤ) → int_le u.low u.high ≡ false → in_range (u.low, u.high) v ≡ false
no_common u v h = grind (arith, ints)

-- ---- a line and the one with turned signs

turned_at : (l r : Line) (v : ℤ) → r.factor ≡ (pos 0 -ℤ l.factor) → r.offset ≡ (pos 0 -ℤ l.offset) → line_at r v ≡ (pos 0 -ℤ line_at l v)
turned_at l r v e f =
    let is = ap (λ (z : ℤ). z *ℤ v) e in
    let back : (pos 0 -ℤ l.factor) +ℤ l.factor ≡ pos 0 = omega (arith, ints) in
    let sum = distribute (pos 0 -ℤ l.factor) l.factor v in
    let whole = ap (λ (z : ℤ). z *ℤ v) back in
    let nil = zero-*ℤ v in
    omega (arith, ints, is, sum, whole, nil, f)

both_tests : (x y : ℤ) → y ≡ (pos 0 -ℤ x) → (int_le x (pos 0) && int_le y (pos 0)) ≡ int_eq x (pos 0)
both_tests x y e = grind (arith, ints)

no_first : (p q r : Bool) → (p && q) ≡ r → p ≡ false → r ≡ false
no_first true q r e h = absurd cc
no_first false q r e h = sym e

no_second : (p q r : Bool) → (p && q) ≡ r → q ≡ false → r ≡ false
no_second true true r e h = absurd cc
no_second true false r e h = sym e
no_second false q r e h = sym e

-- ---- 0

pub no_below : (l r : Line) (s : Span) → r.factor ≡ (pos 0 -ℤ l.factor) → r.offset ≡ (pos 0 -ℤ l.offset) → AreThose s None (λ v. int_le (line_at l v) (pos 0)) → AreThose s None (λ v. int_eq (line_at l v) (pos 0))
no_below l r s e f h v k = no_first (int_le (line_at l v) (pos 0)) (int_le (line_at r v) (pos 0)) (int_eq (line_at l v) (pos 0)) (both_tests (line_at l v) (line_at r v) (turned_at l r v e f)) (h v k)

pub no_above : (l r : Line) (s : Span) → r.factor ≡ (pos 0 -ℤ l.factor) → r.offset ≡ (pos 0 -ℤ l.offset) → AreThose s None (λ v. int_le (line_at r v) (pos 0)) → AreThose s None (λ v. int_eq (line_at l v) (pos 0))
no_above l r s e f h v k = no_second (int_le (line_at l v) (pos 0)) (int_le (line_at r v) (pos 0)) (int_eq (line_at l v) (pos 0)) (both_tests (line_at l v) (line_at r v) (turned_at l r v e f)) (h v k)

both_spans : (l r : Line) (s t u : Span) (v : ℤ) → r.factor ≡ (pos 0 -ℤ l.factor) → r.offset ≡ (pos 0 -ℤ l.offset) → AreThose s (Some t) (λ v. int_le (line_at l v) (pos 0)) → AreThose s (Some u) (λ v. int_le (line_at r v) (pos 0)) → LiesIn s v → (in_range (t.low, t.high) v && in_range (u.low, u.high) v) ≡ int_eq (line_at l v) (pos 0)
both_spans l r s t u v e f h k within =
    ap (λ (b : Bool). b && in_range (u.low, u.high) v) (h.1 v within)
    ∙ ap (λ (b : Bool). int_le (line_at l v) (pos 0) && b) (k.1 v within)
    ∙ both_tests (line_at l v) (line_at r v) (turned_at l r v e f)

pub zero_those : (l r : Line) (s t u : Span) (both : Option Span) → r.factor ≡ (pos 0 -ℤ l.factor) → r.offset ≡ (pos 0 -ℤ l.offset) → AreThose s (Some t) (λ v. int_le (line_at l v) (pos 0)) → AreThose s (Some u) (λ v. int_le (line_at r v) (pos 0)) →
    IfSome both (λ w. IsSpan w) → IfSome both (λ w. (v : ℤ) → in_range (w.low, w.high) v ≡ (in_range (t.low, t.high) v && in_range (u.low, u.high) v)) → IfNone both ((v : ℤ) → (in_range (t.low, t.high) v && in_range (u.low, u.high) v) ≡ false) → AreThose s both (λ v. int_eq (line_at l v) (pos 0))
zero_those l r s t u None e f h k some values none = λ v within. sym (both_spans l r s t u v e f h k within) ∙ none v
zero_those l r s t u (Some w) e f h k some values none = (some, λ v within. values v ∙ both_spans l r s t u v e f h k within)
