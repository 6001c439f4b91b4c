-- What `==` at terms, parts and items decides.
use Rattle.std.proofs.Common.{◌≡◌, ℕ, Bool, ◌&&◌, ◌==◌, ℤ, ap, refl}
use Rattle.std.specs.Bool.{beq, Decides}
use Rattle.std.specs.Cmp.{booleans_Decides}
use Rattle.std.specs.Ordering.{int_eq}
use Rattle.std.proofs.lemmas.Bool.{and_parts}
use Rattle.std.proofs.lemmas.Bool.Decides.{Decides-eqb, Decides-int_eq}

pub term_decides : (a b : ℤ × ℕ) → Decides (int_eq a.0 b.0 && a.1 == b.1) (a ≡ b)
term_decides (a, a') (b, b') = (
  (λ h. let p = and_parts (int_eq a b) (a' == b') h in let first = (Decides-int_eq a b).0 p.0 in let last = (Decides-eqb a' b').0 p.1 in cc),
  (λ e. let first = (Decides-int_eq a b).1 (ap (λ (z : ℤ × ℕ). z.0) e) in let last = (Decides-eqb a' b').1 (ap (λ (z : ℤ × ℕ). z.1) e) in rw (first, last) refl),
)

pub part_decides : (a b : ℕ × Bool) → Decides (a.0 == b.0 && beq a.1 b.1) (a ≡ b)
part_decides (a, a') (b, b') = (
  (λ h. let p = and_parts (a == b) (beq a' b') h in let first = (Decides-eqb a b).0 p.0 in let last = (booleans_Decides a' b').0 p.1 in cc),
  (λ e. let first = (Decides-eqb a b).1 (ap (λ (z : ℕ × Bool). z.0) e) in let last = (booleans_Decides a' b').1 (ap (λ (z : ℕ × Bool). z.1) e) in rw (first, last) refl),
)

pub item_decides : (a b : ℕ × ℕ × ℕ) → Decides ((a.0 == b.0 && a.1 == b.1) && a.2 == b.2) (a ≡ b)
item_decides (a, a', a'') (b, b', b'') = (
  (λ h.
      let p = and_parts (a == b && a' == b') (a'' == b'') h in
      let q = and_parts (a == b) (a' == b') p.0 in
      let first = (Decides-eqb a b).0 q.0 in let second = (Decides-eqb a' b').0 q.1 in let last = (Decides-eqb a'' b'').0 p.1 in cc),
  (λ e.
      let first = (Decides-eqb a b).1 (ap (λ (z : ℕ × ℕ × ℕ). z.0) e) in
      let second = (Decides-eqb a' b').1 (ap (λ (z : ℕ × ℕ × ℕ). z.1) e) in
      let last = (Decides-eqb a'' b'').1 (ap (λ (z : ℕ × ℕ × ℕ). z.2) e) in rw (first, second, last) refl),
)
