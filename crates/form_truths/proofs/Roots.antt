-- Where a line comes down to 0.
use Rattle.std.proofs.Common.{◌≡◌, ℕ, suc, ◌+◌, ◌*◌, ◌<◌, ◌≤◌, Bool, true, false, Some, None, ℤ, pos, negsuc, ◌+ℤ◌, ◌-ℤ◌, ◌*ℤ◌, ◌≤ℤ◌, ◌<ℤ◌, unsigned_abs, arith, refl, ap, sym, subst, ◌∙◌}
use Rattle.std.specs.Prelude.{int_le}
use Rattle.std.proofs.lemmas.Int.{ints}
use Rattle.std.proofs.Math.IntN.{pos-*ℤ-pos, negsuc-*ℤ-pos, neg_ℤ}
use Rattle.signed_clause.specs.Ranges.{in_range}
use Rattle.ground_form.proofs.Products.{mul_up, mul_down}
use Rattle.form_build.proofs.Distributing.{spread}
use Rattle.form_truths.specs.declared.lines.Line.{Line}
use Rattle.form_truths.specs.declared.lines.Span.{Span}
use Rattle.form_truths.specs.Lines.{line_at, IsSpan, LiesIn, AreThose}

-- ---- some steps in the direction in which the product falls

falls_down : (c at : ℤ) (steps : ℕ) → pos 0 <ℤ c → (c *ℤ (at -ℤ pos steps)) ≡ ((c *ℤ at) -ℤ pos (unsigned_abs c * steps))
falls_down (pos n) at steps h =
    let back : (at -ℤ pos steps) +ℤ pos steps ≡ at = omega (arith, ints) in
    let sum = spread (pos n) (at -ℤ pos steps) (pos steps) in
    let whole = ap (λ (z : ℤ). pos n *ℤ z) back in
    let product = pos-*ℤ-pos n steps in
    omega (arith, ints, sum, whole, product)
falls_down (negsuc n) at steps h = absurd (omega (arith, ints, h))

negative : (x : ℤ) (m : ℕ) → (x +ℤ neg_ℤ (pos m)) ≡ (x -ℤ pos m)
negative x m = omega (arith, ints)

falls_up : (c at : ℤ) (steps : ℕ) → c <ℤ pos 0 → (c *ℤ (at +ℤ pos steps)) ≡ ((c *ℤ at) -ℤ pos (unsigned_abs c * steps))
falls_up (pos n) at steps h = absurd (omega (arith, ints, h))
falls_up (negsuc n) at steps h = spread (negsuc n) at (pos steps) ∙ ap (λ (z : ℤ). (negsuc n *ℤ at) +ℤ z) (negsuc-*ℤ-pos n steps) ∙ negative (negsuc n *ℤ at) (suc n * steps)

rises : (c x y : ℤ) → pos 0 <ℤ c → x ≤ℤ y → (c *ℤ x) ≤ℤ (c *ℤ y)
rises (pos n) x y h k = mul_up n x y k
rises (negsuc n) x y h k = absurd (omega (arith, ints, h))

falls : (c x y : ℤ) → c <ℤ pos 0 → x ≤ℤ y → (c *ℤ y) ≤ℤ (c *ℤ x)
falls (pos n) x y h k = absurd (omega (arith, ints, h))
falls (negsuc n) x y h k = mul_down n x y k

one_more : (c : ℤ) → pos 0 <ℤ c → (c *ℤ pos 1) ≡ c
one_more (pos n) h = pos-*ℤ-pos n 1 ∙ ap pos (omega arith)
one_more (negsuc n) h = absurd (omega (arith, ints, h))

-- ---- tests

test_true : (x : ℤ) → x ≤ℤ pos 0 → int_le x (pos 0) ≡ true
test_true x h = grind (arith, ints)

test_false : (x : ℤ) → pos 0 <ℤ x → int_le x (pos 0) ≡ false
test_false x h = grind (arith, ints)

pub test_holds : (x : ℤ) → int_le x (pos 0) ≡ true → x ≤ℤ pos 0
test_holds x h = grind (arith, ints)

pub test_fails : (x : ℤ) → int_le x (pos 0) ≡ false → pos 0 <ℤ x
test_fails x h = grind (arith, ints)

in_true : (low high v : ℤ) → low ≤ℤ v → v ≤ℤ high → in_range (low, high) v ≡ true
in_true low high v h k = grind (arith, ints)

above_false : (low high v : ℤ) → high <ℤ v → in_range (low, high) v ≡ false
above_false low high v h = grind (arith, ints)

below_false : (low high v : ℤ) → v <ℤ low → in_range (low, high) v ≡ false
below_false low high v h = grind (arith, ints)

-- the steps from the top lead to the last value at which the line isn't above 0
pub record AreSteps (top : ℤ) (size n : ℕ) : Type 0 where
  pub above : pos 0 <ℤ top
  pub enough : unsigned_abs top ≤ size * n
  pub few : size * n < unsigned_abs top + size

-- from what the code computes
pub steps_from : (top at : ℤ) (size size' n : ℕ) → top ≡ at → size ≡ size' → int_le top (pos 0) ≡ false → unsigned_abs top ≤ size * n → size * n < unsigned_abs top + size → AreSteps at size' n
steps_from top at size size' n e f h k m =
    let one : AreSteps top size n = record { above = test_fails top h; enough = k; few = m } in
    subst (λ (z : ℤ). AreSteps z size' n) e (subst (λ (z : ℕ). AreSteps top z n) f one)

-- ---- rising lines

rising_in : (l : Line) (s : Span) (n : ℕ) (v : ℤ) → pos 0 <ℤ l.factor → AreSteps (line_at l s.high) (unsigned_abs l.factor) n → v ≤ℤ (s.high -ℤ pos n) → line_at l v ≤ℤ pos 0
rising_in l s n v up t h =
    let m = rises l.factor v (s.high -ℤ pos n) up h in
    let e = falls_down l.factor s.high n up in
    omega (arith, ints, m, e, t.above, t.enough)

rising_out : (l : Line) (s : Span) (n : ℕ) (v : ℤ) → pos 0 <ℤ l.factor → AreSteps (line_at l s.high) (unsigned_abs l.factor) n → (s.high -ℤ pos n) <ℤ v → pos 0 <ℤ line_at l v
rising_out l s n v up t h =
    let m = rises l.factor ((s.high -ℤ pos n) +ℤ pos 1) v up (omega (arith, ints, h)) in
    let one = spread l.factor (s.high -ℤ pos n) (pos 1) in
    let unit = one_more l.factor up in
    let e = falls_down l.factor s.high n up in
    omega (arith, ints, m, one, unit, e, t.above, t.few, up)

pub rising_all : (l : Line) (s : Span) → pos 0 <ℤ l.factor → IsSpan s → line_at l s.high ≤ℤ pos 0 → AreThose s (Some s) (λ v. int_le (line_at l v) (pos 0))
rising_all l s up span h = (span, λ v k. let m = rises l.factor v s.high up k.1 in in_true s.low s.high v k.0 k.1 ∙ sym (test_true (line_at l v) (omega (arith, ints, m, h))))

pub rising_none : (l : Line) (s : Span) (n : ℕ) → pos 0 <ℤ l.factor → AreSteps (line_at l s.high) (unsigned_abs l.factor) n → (s.high -ℤ pos n) <ℤ s.low → AreThose s None (λ v. int_le (line_at l v) (pos 0))
rising_none l s n up t h v k = test_false (line_at l v) (rising_out l s n v up t (omega (arith, ints, h, k.0)))

pub rising_some : (l : Line) (s r : Span) (n : ℕ) → pos 0 <ℤ l.factor → AreSteps (line_at l s.high) (unsigned_abs l.factor) n → s.low ≤ℤ (s.high -ℤ pos n) → r.low ≡ s.low → r.high ≡ (s.high -ℤ pos n) → AreThose s (Some r) (λ v. int_le (line_at l v) (pos 0))
rising_some l s r n up t h low high = (omega (arith, ints, h, low, high), λ v k. by v k (int_le v (s.high -ℤ pos n)) refl)
  where
    by : (v : ℤ) → LiesIn s v → (b : Bool) → int_le v (s.high -ℤ pos n) ≡ b → in_range (r.low, r.high) v ≡ int_le (line_at l v) (pos 0)
    by v k true e =
        let le : v ≤ℤ (s.high -ℤ pos n) = grind (arith, ints) in
        in_true r.low r.high v (omega (arith, ints, k.0, low)) (omega (arith, ints, le, high)) ∙ sym (test_true (line_at l v) (rising_in l s n v up t le))
    by v k false e =
        let lt : (s.high -ℤ pos n) <ℤ v = grind (arith, ints) in
        above_false r.low r.high v (omega (arith, ints, lt, high)) ∙ sym (test_false (line_at l v) (rising_out l s n v up t lt))

-- ---- falling lines

one_less : (c : ℤ) → (c *ℤ pos 1) ≡ c
one_less (pos n) = pos-*ℤ-pos n 1 ∙ ap pos (omega arith)
one_less (negsuc n) = negsuc-*ℤ-pos n 1 ∙ (let e : suc n * 1 ≡ suc n = omega arith in ap (λ (m : ℕ). neg_ℤ (pos m)) e)

falling_in : (l : Line) (s : Span) (n : ℕ) (v : ℤ) → l.factor <ℤ pos 0 → AreSteps (line_at l s.low) (unsigned_abs l.factor) n → (s.low +ℤ pos n) ≤ℤ v → line_at l v ≤ℤ pos 0
falling_in l s n v down t h =
    let m = falls l.factor (s.low +ℤ pos n) v down h in
    let e = falls_up l.factor s.low n down in
    omega (arith, ints, m, e, t.above, t.enough)

falling_out : (l : Line) (s : Span) (n : ℕ) (v : ℤ) → l.factor <ℤ pos 0 → AreSteps (line_at l s.low) (unsigned_abs l.factor) n → v <ℤ (s.low +ℤ pos n) → pos 0 <ℤ line_at l v
falling_out l s n v down t h =
    let m = falls l.factor (v +ℤ pos 1) (s.low +ℤ pos n) down (omega (arith, ints, h)) in
    let one = spread l.factor v (pos 1) in
    let unit = one_less l.factor in
    let e = falls_up l.factor s.low n down in
    omega (arith, ints, m, one, unit, e, t.above, t.few, down)

pub falling_all : (l : Line) (s : Span) → l.factor <ℤ pos 0 → IsSpan s → line_at l s.low ≤ℤ pos 0 → AreThose s (Some s) (λ v. int_le (line_at l v) (pos 0))
falling_all l s down span h = (span, λ v k. let m = falls l.factor s.low v down k.0 in in_true s.low s.high v k.0 k.1 ∙ sym (test_true (line_at l v) (omega (arith, ints, m, h))))

pub falling_none : (l : Line) (s : Span) (n : ℕ) → l.factor <ℤ pos 0 → AreSteps (line_at l s.low) (unsigned_abs l.factor) n → s.high <ℤ (s.low +ℤ pos n) → AreThose s None (λ v. int_le (line_at l v) (pos 0))
falling_none l s n down t h v k = test_false (line_at l v) (falling_out l s n v down t (omega (arith, ints, h, k.1)))

pub falling_some : (l : Line) (s r : Span) (n : ℕ) → l.factor <ℤ pos 0 → AreSteps (line_at l s.low) (unsigned_abs l.factor) n → (s.low +ℤ pos n) ≤ℤ s.high → r.low ≡ (s.low +ℤ pos n) → r.high ≡ s.high → AreThose s (Some r) (λ v. int_le (line_at l v) (pos 0))
falling_some l s r n down t h low high = (omega (arith, ints, h, low, high), λ v k. by v k (int_le (s.low +ℤ pos n) v) refl)
  where
    by : (v : ℤ) → LiesIn s v → (b : Bool) → int_le (s.low +ℤ pos n) v ≡ b → in_range (r.low, r.high) v ≡ int_le (line_at l v) (pos 0)
    by v k true e =
        let le : (s.low +ℤ pos n) ≤ℤ v = grind (arith, ints) in
        in_true r.low r.high v (omega (arith, ints, le, low)) (omega (arith, ints, k.1, high)) ∙ sym (test_true (line_at l v) (falling_in l s n v down t le))
    by v k false e =
        let lt : v <ℤ (s.low +ℤ pos n) = grind (arith, ints) in
        below_false r.low r.high v (omega (arith, ints, lt, low)) ∙ sym (test_false (line_at l v) (falling_out l s n v down t lt))
