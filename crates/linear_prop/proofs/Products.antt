-- Products with a coefficient and their order.
use Rattle.std.proofs.Common.{◌≡◌, ℕ, suc, zero, ◌*◌, ℤ, pos, negsuc, ◌+ℤ◌, ◌-ℤ◌, ◌*ℤ◌, ◌≤ℤ◌, ◌<ℤ◌, ◌/◌, ◌%◌, ◌<◌, unsigned_abs, arith, refl, ap, sym, subst, ◌∙◌}
use Rattle.std.specs.Prelude.{int_lt}
use Rattle.std.specs.Int.{int_min, int_max}
use Rattle.std.proofs.lemmas.Int.{ints, clamps, by_lt_z}
use Rattle.std.proofs.Math.IntN.{zero-*ℤ, pos-*ℤ-pos, negsuc-*ℤ-pos, neg_ℤ, suc_ℤ, pred_ℤ, *ℤ_comm, suc_ℤ-*ℤ, pred_ℤ-*ℤ, *ℤ-zero}
use Rattle.std.proofs.Math.Nat.{div-add-mod}
use Rattle.ground_form.proofs.Products.{mul_up, mul_down}

pub least_end : (c low high : ℤ) → low ≤ℤ high → pos 0 ≤ℤ c → c *ℤ low ≡ int_min (c *ℤ low) (c *ℤ high)
least_end (pos n) low high h k = let m = mul_up n low high h in omega (arith, ints, clamps)
least_end (negsuc n) low high h k = absurd (omega (arith, ints))

pub least_end_negative : (c low high : ℤ) → low ≤ℤ high → c <ℤ pos 0 → c *ℤ high ≡ int_min (c *ℤ low) (c *ℤ high)
least_end_negative (pos n) low high h k = absurd (omega (arith, ints))
least_end_negative (negsuc n) low high h k = let m = mul_down n low high h in omega (arith, ints, clamps)

pub greatest_end : (c low high : ℤ) → low ≤ℤ high → pos 0 ≤ℤ c → c *ℤ high ≡ int_max (c *ℤ low) (c *ℤ high)
greatest_end (pos n) low high h k = let m = mul_up n low high h in omega (arith, ints, clamps)
greatest_end (negsuc n) low high h k = absurd (omega (arith, ints))

pub greatest_end_negative : (c low high : ℤ) → low ≤ℤ high → c <ℤ pos 0 → c *ℤ low ≡ int_max (c *ℤ low) (c *ℤ high)
greatest_end_negative (pos n) low high h k = absurd (omega (arith, ints))
greatest_end_negative (negsuc n) low high h k = let m = mul_down n low high h in omega (arith, ints, clamps)

-- ---- some steps in the direction in which the product falls

suc_is : (m : ℤ) → suc_ℤ m ≡ m +ℤ pos 1
suc_is (pos n) = omega (arith, ints)
suc_is (negsuc zero) = refl
suc_is (negsuc (suc n)) = omega (arith, ints)

pred_is : (m : ℤ) → pred_ℤ m ≡ m -ℤ pos 1
pred_is (pos zero) = refl
pred_is (pos (suc n)) = omega (arith, ints)
pred_is (negsuc n) = omega (arith, ints)

next_product : (c m : ℤ) → c *ℤ suc_ℤ m ≡ (c *ℤ m) +ℤ c
next_product c m = *ℤ_comm c (suc_ℤ m) ∙ suc_ℤ-*ℤ m c ∙ ap (λ (z : ℤ). z +ℤ c) (*ℤ_comm m c)

product_before : (c m : ℤ) → c *ℤ pred_ℤ m ≡ (c *ℤ m) -ℤ c
product_before c m = *ℤ_comm c (pred_ℤ m) ∙ pred_ℤ-*ℤ m c ∙ ap (λ (z : ℤ). z -ℤ c) (*ℤ_comm m c)

minus_law : (c a : ℤ) (s : ℕ) → c *ℤ (a -ℤ pos s) ≡ (c *ℤ a) -ℤ (c *ℤ pos s)
minus_law c a zero =
    let none : a -ℤ pos 0 ≡ a = omega (arith, ints) in let nil = *ℤ-zero c in
    ap (λ (z : ℤ). c *ℤ z) none ∙ omega (arith, ints)
minus_law c a (suc s) =
    let is = pred_is (a -ℤ pos s) in let one : a -ℤ pos (suc s) ≡ pred_ℤ (a -ℤ pos s) = omega (arith, ints) in
    let more = minus_law c a s in
    let step = product_before c (a -ℤ pos s) in
    let next : c *ℤ pos (suc s) ≡ (c *ℤ pos s) +ℤ c = next_product c (pos s) in
    ap (λ (z : ℤ). c *ℤ z) one ∙ omega (arith, ints)

plus_law : (c a : ℤ) (s : ℕ) → c *ℤ (a +ℤ pos s) ≡ (c *ℤ a) +ℤ (c *ℤ pos s)
plus_law c a zero =
    let none : a +ℤ pos 0 ≡ a = omega (arith, ints) in let nil = *ℤ-zero c in
    ap (λ (z : ℤ). c *ℤ z) none ∙ omega (arith, ints)
plus_law c a (suc s) =
    let is = suc_is (a +ℤ pos s) in let one : a +ℤ pos (suc s) ≡ suc_ℤ (a +ℤ pos s) = omega (arith, ints) in
    let more = plus_law c a s in
    let step = next_product c (a +ℤ pos s) in
    let next : c *ℤ pos (suc s) ≡ (c *ℤ pos s) +ℤ c = next_product c (pos s) in
    ap (λ (z : ℤ). c *ℤ z) one ∙ omega (arith, ints)

pub falls_down : (c at : ℤ) (steps : ℕ) → pos 0 ≤ℤ c → c *ℤ (at -ℤ pos steps) ≡ (c *ℤ at) -ℤ pos (unsigned_abs c * steps)
falls_down (pos n) at steps h = minus_law (pos n) at steps ∙ ap (λ (z : ℤ). (pos n *ℤ at) -ℤ z) (pos-*ℤ-pos n steps)
falls_down (negsuc n) at steps h = absurd (omega (arith, ints))

negative : (x : ℤ) (m k : ℕ) → m ≡ k → (x +ℤ neg_ℤ (pos m)) ≡ x -ℤ pos k
negative x m k e = omega (arith, ints)

pub falls_up : (c at : ℤ) (steps : ℕ) → c <ℤ pos 0 → c *ℤ (at +ℤ pos steps) ≡ (c *ℤ at) -ℤ pos (unsigned_abs c * steps)
falls_up (pos n) at steps h = absurd (omega (arith, ints))
falls_up (negsuc n) at steps h = plus_law (negsuc n) at steps ∙ ap (λ (z : ℤ). (negsuc n *ℤ at) +ℤ z) (negsuc-*ℤ-pos n steps) ∙ negative (negsuc n *ℤ at) (suc n * steps) (suc n * steps) refl

paid_exactly : (x to : ℤ) (size slack : ℕ) → to ≡ x -ℤ pos (size * (slack / size)) → to ≡ (x -ℤ pos slack) +ℤ pos (slack % size)
paid_exactly x to size slack e = let d = div-add-mod slack size in omega (arith, ints)

pub paid_in_full : (x to : ℤ) (size shown slack : ℕ) → shown ≡ size → to ≡ x -ℤ pos (size * (slack / shown)) → to ≡ (x -ℤ pos slack) +ℤ pos (slack % shown)
paid_in_full x to size shown slack s e = paid_exactly x to shown slack (subst (λ (n : ℕ). to ≡ x -ℤ pos (n * (slack / shown))) (sym s) e)

-- ---- products and order

next_up : (n : ℕ) (v to : ℤ) → v <ℤ to → (pos (suc n) *ℤ v) <ℤ (pos (suc n) *ℤ to)
next_up n v to h =
    let le : suc_ℤ v ≤ℤ to = let is = suc_is v in omega (arith, ints) in
    let m = mul_up (suc n) (suc_ℤ v) to le in
    let e = next_product (pos (suc n)) v in omega (arith, ints)

next_down : (n : ℕ) (v to : ℤ) → to <ℤ v → (negsuc n *ℤ v) <ℤ (negsuc n *ℤ to)
next_down n v to h =
    let le : suc_ℤ to ≤ℤ v = let is = suc_is to in omega (arith, ints) in
    let m = mul_down n (suc_ℤ to) v le in
    let e = next_product (negsuc n) to in omega (arith, ints)

both_less : (a b x y : ℤ) → a <ℤ b → x <ℤ y → int_lt a b ≡ int_lt x y
both_less a b x y h k = grind (arith, ints)

both_not : (a b x y : ℤ) → b ≤ℤ a → y ≤ℤ x → int_lt a b ≡ int_lt x y
both_not a b x y h k = grind (arith, ints)

pub below_same : (c v to : ℤ) → pos 0 <ℤ c → int_lt v to ≡ int_lt (c *ℤ v) (c *ℤ to)
below_same (pos zero) v to h = absurd (omega (arith, ints))
below_same (pos (suc n)) v to h =
    let up : v <ℤ to → (pos (suc n) *ℤ v) <ℤ (pos (suc n) *ℤ to) = next_up n v to in
    let down : to ≤ℤ v → (pos (suc n) *ℤ to) ≤ℤ (pos (suc n) *ℤ v) = mul_up (suc n) to v in
    by_lt_z {P = int_lt v to ≡ int_lt (pos (suc n) *ℤ v) (pos (suc n) *ℤ to)} v to
    (λ l. let m = up l in both_less v to _ _ l m) (λ l. let m = down l in both_not v to _ _ l m)
below_same (negsuc n) v to h = absurd (omega (arith, ints))

pub above_same : (c v to : ℤ) → c <ℤ pos 0 → int_lt to v ≡ int_lt (c *ℤ v) (c *ℤ to)
above_same (pos n) v to h = absurd (omega (arith, ints))
above_same (negsuc n) v to h =
    by_lt_z {P = int_lt to v ≡ int_lt (negsuc n *ℤ v) (negsuc n *ℤ to)} to v
    (λ l. let m = next_down n v to l in both_less to v _ _ l m) (λ l. let m = mul_down n v to l in both_not to v _ _ l m)

pub above_low_end : (c low high to : ℤ) → low ≤ℤ high → pos 0 ≤ℤ c → int_min (c *ℤ low) (c *ℤ high) <ℤ (c *ℤ to) → low <ℤ to
above_low_end (pos n) low high to o h k =
    by_lt_z {P = low <ℤ to} low to (λ l. l)
    (λ l. let m = mul_up n to low l in let e = least_end (pos n) low high o h in absurd (omega (arith, ints, clamps)))
above_low_end (negsuc n) low high to o h k = absurd (omega (arith, ints))

pub below_high_end : (c low high to : ℤ) → low ≤ℤ high → c <ℤ pos 0 → int_min (c *ℤ low) (c *ℤ high) <ℤ (c *ℤ to) → to <ℤ high
below_high_end (pos n) low high to o h k = absurd (omega (arith, ints))
below_high_end (negsuc n) low high to o h k =
    by_lt_z {P = to <ℤ high} to high (λ l. l)
    (λ l. let m = mul_down n high to l in let e = least_end_negative (negsuc n) low high o h in absurd (omega (arith, ints, clamps)))

pub some_factor : (c low high to : ℤ) → int_min (c *ℤ low) (c *ℤ high) <ℤ (c *ℤ to) → 0 < unsigned_abs c
some_factor (pos zero) low high to h =
    let a = zero-*ℤ low in let b = zero-*ℤ high in let d = zero-*ℤ to in absurd (omega (arith, ints, clamps))
some_factor (pos (suc n)) low high to h = omega arith
some_factor (negsuc n) low high to h = omega arith
