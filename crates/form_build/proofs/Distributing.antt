-- Products of sums.
use Rattle.std.proofs.Common.{◌≡◌, ℕ, zero, suc, ℤ, pos, negsuc, ◌+ℤ◌, ◌-ℤ◌, ◌*ℤ◌, sym, ap, ◌∙◌, arith}
use Rattle.std.proofs.lemmas.Int.{ints}
use Rattle.std.proofs.Math.IntN.{suc_ℤ-*ℤ, pred_ℤ-*ℤ, zero-*ℤ, +ℤ-suc_ℤ, +ℤ-pred_ℤ, *ℤ_comm}

distribute_up : (c v : ℤ) (s : ℕ) → ((c +ℤ pos s) *ℤ v) ≡ ((c *ℤ v) +ℤ (pos s *ℤ v))
distribute_up c v zero =
    let none : c +ℤ pos 0 ≡ c = omega (arith, ints) in
    let nil = zero-*ℤ v in
    ap (λ (z : ℤ). z *ℤ v) none ∙ omega (arith, ints)
distribute_up c v (suc s) =
    let more = distribute_up c v s in
    let one = +ℤ-suc_ℤ c (pos s) in
    let step = suc_ℤ-*ℤ (c +ℤ pos s) v in
    let next : (pos (suc s) *ℤ v) ≡ ((pos s *ℤ v) +ℤ v) = suc_ℤ-*ℤ (pos s) v in
    ap (λ (z : ℤ). z *ℤ v) one ∙ omega (arith, ints)

distribute_down : (c v : ℤ) (s : ℕ) → ((c +ℤ negsuc s) *ℤ v) ≡ ((c *ℤ v) +ℤ (negsuc s *ℤ v))
distribute_down c v zero =
    let one = +ℤ-pred_ℤ c (pos 0) in
    let none : c +ℤ pos 0 ≡ c = omega (arith, ints) in
    let step = pred_ℤ-*ℤ (c +ℤ pos 0) v in
    let same = ap (λ (z : ℤ). z *ℤ v) none in
    let nil = zero-*ℤ v in
    let next : (negsuc 0 *ℤ v) ≡ ((pos 0 *ℤ v) -ℤ v) = pred_ℤ-*ℤ (pos 0) v in
    ap (λ (z : ℤ). z *ℤ v) one ∙ omega (arith, ints)
distribute_down c v (suc s) =
    let more = distribute_down c v s in
    let one = +ℤ-pred_ℤ c (negsuc s) in
    let step = pred_ℤ-*ℤ (c +ℤ negsuc s) v in
    let next : (negsuc (suc s) *ℤ v) ≡ ((negsuc s *ℤ v) -ℤ v) = pred_ℤ-*ℤ (negsuc s) v in
    ap (λ (z : ℤ). z *ℤ v) one ∙ omega (arith, ints)

-- (c + d) * v
pub distribute : (c d v : ℤ) → ((c +ℤ d) *ℤ v) ≡ ((c *ℤ v) +ℤ (d *ℤ v))
distribute c (pos s) v = distribute_up c v s
distribute c (negsuc s) v = distribute_down c v s

-- c * (v + w)
pub spread : (c v w : ℤ) → (c *ℤ (v +ℤ w)) ≡ ((c *ℤ v) +ℤ (c *ℤ w))
spread c v w =
    *ℤ_comm c (v +ℤ w) ∙ distribute v w c
    ∙ ap (λ (z : ℤ). z +ℤ (w *ℤ c)) (*ℤ_comm v c) ∙ ap (λ (z : ℤ). (c *ℤ v) +ℤ z) (*ℤ_comm w c)

-- (c - d) * v
distribute_less : (c d v : ℤ) → ((c -ℤ d) *ℤ v) ≡ ((c *ℤ v) -ℤ (d *ℤ v))
distribute_less c d v =
    let back : (c -ℤ d) +ℤ d ≡ c = omega (arith, ints) in
    let sum = distribute (c -ℤ d) d v in
    let is = ap (λ (z : ℤ). z *ℤ v) back in
    omega (arith, ints, sum, is)

assoc_up : (s : ℕ) (d v : ℤ) → ((pos s *ℤ d) *ℤ v) ≡ (pos s *ℤ (d *ℤ v))
assoc_up zero d v = ap (λ (z : ℤ). z *ℤ v) (zero-*ℤ d) ∙ zero-*ℤ v ∙ sym (zero-*ℤ (d *ℤ v))
assoc_up (suc s) d v =
    let more = assoc_up s d v in
    let left = ap (λ (z : ℤ). z *ℤ v) (suc_ℤ-*ℤ (pos s) d) in
    let sum = distribute (pos s *ℤ d) d v in
    let right = suc_ℤ-*ℤ (pos s) (d *ℤ v) in
    left ∙ sum ∙ ap (λ (z : ℤ). z +ℤ (d *ℤ v)) more ∙ sym right

assoc_down : (s : ℕ) (d v : ℤ) → ((negsuc s *ℤ d) *ℤ v) ≡ (negsuc s *ℤ (d *ℤ v))
assoc_down zero d v =
    let more = assoc_up 0 d v in
    let left = ap (λ (z : ℤ). z *ℤ v) (pred_ℤ-*ℤ (pos 0) d) in
    let right = pred_ℤ-*ℤ (pos 0) (d *ℤ v) in
    left ∙ distribute_less (pos 0 *ℤ d) d v ∙ ap (λ (z : ℤ). z -ℤ (d *ℤ v)) more ∙ sym right
assoc_down (suc s) d v =
    let more = assoc_down s d v in
    let left = ap (λ (z : ℤ). z *ℤ v) (pred_ℤ-*ℤ (negsuc s) d) in
    let right = pred_ℤ-*ℤ (negsuc s) (d *ℤ v) in
    left ∙ distribute_less (negsuc s *ℤ d) d v ∙ ap (λ (z : ℤ). z -ℤ (d *ℤ v)) more ∙ sym right

-- (c * d) * v
pub product_assoc : (c d v : ℤ) → ((c *ℤ d) *ℤ v) ≡ (c *ℤ (d *ℤ v))
product_assoc (pos s) d v = assoc_up s d v
product_assoc (negsuc s) d v = assoc_down s d v
