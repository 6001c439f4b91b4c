-- The join as code makes it is the join.
use Rattle.std.proofs.Common.{◌≡◌, ℕ, ◌≤◌, true, false, ◌||◌, cond, [], ◌∷◌, ◌++◌, ℤ, pos, negsuc, ◌+ℤ◌, ◌≤ℤ◌, refl, sym, ap, ◌∙◌, subst, arith, int_le, int_lt, length, drop, Option}
use Rattle.std.specs.Int.{int_max}
use Rattle.std.proofs.lemmas.Int.{ints, clamps}
use Rattle.signed_clause.specs.Ranges.{Ranges, in_range, has, Ascends, IsValid}
use Rattle.signed_clause.specs.SetAlgebra.{join}
use Rattle.signed_clause.specs.Union.{fuse, fused}
use Rattle.signed_clause.specs.Merging.{fuse_pending, merge_from, merge}
use Rattle.signed_clause.proofs.RangeSteps.{left_none}
use Rattle.signed_clause.proofs.RangeLaws.{Ascends-ends, Ascends-join, has-join, same_ranges}

-- starts ascend from low, and all ends are at most top
abbrev pub Starts : ℤ → ℤ → Ranges → Type 0
Starts low top [] = Unit {0}
Starts low top (r ∷ rs) = (low ≤ℤ r.0) × (r.0 ≤ℤ r.1) × (r.1 ≤ℤ top) × Starts r.0 top rs

Starts-weaken : (low low' top : ℤ) (rs : Ranges) → low ≤ℤ low' → Starts low' top rs → Starts low top rs
Starts-weaken low low' top [] h s = tt
Starts-weaken low low' top (r ∷ rs) h s = (omega (arith, ints), s.1, s.2, s.3)

Starts-Ascends : (low top : ℤ) (rs : Ranges) → Ascends low top rs → Starts low top rs
Starts-Ascends low top [] s = tt
Starts-Ascends low top (r ∷ rs) s =
    let ends = Ascends-ends (r.1 +ℤ pos 2) top rs s.2 in
    (s.0, s.1, omega (arith, ints), Starts-weaken r.0 (r.1 +ℤ pos 2) top rs (omega (arith, ints)) (Starts-Ascends (r.1 +ℤ pos 2) top rs s.2))

has-fuse : (low high top : ℤ) (rs : Ranges) (v : ℤ) → low ≤ℤ high → Starts low top rs → has (fuse low high rs) v ≡ (in_range (low, high) v || has rs v)
has-fuse low high top [] v h s = refl
has-fuse low high top (r ∷ rs) v h s =
    let apart = has-fuse r.0 r.1 top rs v s.1 s.3 in
    let joined = has-fuse low (int_max high r.1) top rs v (omega (arith, ints, clamps)) (Starts-weaken low r.0 top rs s.0 s.3) in
    grind (arith, ints, clamps)

Ascends-fuse : (l low high top : ℤ) (rs : Ranges) → l ≤ℤ low → low ≤ℤ high → high ≤ℤ top → Starts low top rs → Ascends l top (fuse low high rs)
Ascends-fuse l low high top [] k h t s = (k, h, omega (arith, ints))
Ascends-fuse l low high top (r ∷ rs) k h t s =
    elim (int_lt (high +ℤ pos 1) r.0) as (λ x. int_lt (high +ℤ pos 1) r.0 ≡ x → Ascends l top (cond x ((low, high) ∷ fuse r.0 r.1 rs) (fuse low (int_max high r.1) rs))) [
      | true ↦ λ e. (k, h, Ascends-fuse (high +ℤ pos 2) r.0 r.1 top rs (grind (arith, ints)) s.1 s.2 s.3)
      | false ↦ λ e. Ascends-fuse l low (int_max high r.1) top rs k (omega (arith, ints, clamps)) (let e = s.2 in omega (arith, ints, clamps)) (Starts-weaken low r.0 top rs s.0 s.3)
    ] refl

Starts-merge_from : (rest : Ranges → Ranges) (r : ℤ × ℤ) (low top : ℤ) (b : Ranges) → ((b : Ranges) (low : ℤ) → r.0 ≡ low → Starts low top b → Starts low top (rest b)) →
    low ≤ℤ r.0 → r.0 ≤ℤ r.1 → r.1 ≤ℤ top → Starts low top b → Starts low top (merge_from rest r b)
Starts-merge_from rest r low top [] rests k h t s = (k, h, t, rests [] r.0 refl tt)
Starts-merge_from rest r low top (c ∷ b) rests k h t s =
    elim (int_le r.0 c.0) as (λ x. int_le r.0 c.0 ≡ x → Starts low top (cond x (r ∷ rest (c ∷ b)) (c ∷ merge_from rest r b))) [
      | true ↦ λ e. (k, h, t, rests (c ∷ b) r.0 refl (grind (arith, ints), s.1, s.2, s.3))
      | false ↦ λ e. (s.0, s.1, s.2, Starts-merge_from rest r c.0 top b rests (grind (arith, ints)) h t s.3)
    ] refl

Starts-merge : (a b : Ranges) (low top : ℤ) → Starts low top a → Starts low top b → Starts low top (merge a b)
Starts-merge [] b low top s t = t
Starts-merge (r ∷ a) b low top s t = Starts-merge_from (merge a) r low top b (λ b l e u. Starts-merge a b l top (Starts-weaken l r.0 top a (omega (arith, ints)) s.3) u) s.0 s.1 s.2 t

has-merge_from : (rest : Ranges → Ranges) (a : Ranges) (r : ℤ × ℤ) (b : Ranges) (v : ℤ) → ((b : Ranges) → has (rest b) v ≡ (has a v || has b v)) → has (merge_from rest r b) v ≡ (has (r ∷ a) v || has b v)
has-merge_from rest a r [] v rests = let e = rests [] in grind arith
has-merge_from rest a r (s ∷ b) v rests = let e = rests (s ∷ b) in let more = has-merge_from rest a r b v rests in grind arith

has-merge : (a b : Ranges) (v : ℤ) → has (merge a b) v ≡ (has a v || has b v)
has-merge [] b v = refl
has-merge (r ∷ a) b v = has-merge_from (merge a) a r b v (λ b. has-merge a b v)

has-fused : (low top : ℤ) (rs : Ranges) (v : ℤ) → Starts low top rs → has (fused rs) v ≡ has rs v
has-fused low top [] v s = refl
has-fused low top (r ∷ rs) v s = has-fuse r.0 r.1 top rs v s.1 s.3

Ascends-fused : (low top : ℤ) (rs : Ranges) → low ≤ℤ (top +ℤ pos 2) → Starts low top rs → Ascends low top (fused rs)
Ascends-fused low top [] h s = h
Ascends-fused low top (r ∷ rs) h s = Ascends-fuse low r.0 r.1 top rs s.0 s.1 s.2 s.3

-- what the code makes is the join
pub fused-merge : (a b : Ranges) → IsValid a → IsValid b → fused (merge a b) ≡ join a b
fused-merge a b s t =
    let starts = Starts-merge a b (negsuc 9223372036854775807) (pos 9223372036854775807) (Starts-Ascends _ _ a s) (Starts-Ascends _ _ b t) in
    same_ranges (fused (merge a b)) (join a b) _ _ _ _ (Ascends-fused (negsuc 9223372036854775807) (pos 9223372036854775807) (merge a b) (omega (arith, ints)) starts) (Ascends-join a b _ _ s t)
    (λ v. has-fused (negsuc 9223372036854775807) (pos 9223372036854775807) (merge a b) v starts ∙ has-merge a b v ∙ sym (has-join a b _ _ v s t))

-- nothing is left of both
pub merge-done : (a b : Ranges) (i j : ℕ) → length a ≤ i → length b ≤ j → merge (drop i a) (drop j b) ≡ []
merge-done a b i j h k = rw (left_none a i h, left_none b j k) refl

-- the loop's end: all that is left is the pending range
pub join_done : (a b x y out end : Ranges) (p : Option (ℤ × ℤ)) (i j : ℕ) → IsValid a → IsValid b → x ≡ a → y ≡ b → length x ≤ i → length y ≤ j →
    out ++ fuse_pending p (merge (drop i x) (drop j y)) ≡ fused (merge x y) → end ≡ out ++ fuse_pending p [] → end ≡ join a b
join_done a b x y out end p i j s t ea eb h k inv e =
    e ∙ ap (λ z. out ++ fuse_pending p z) (sym (merge-done x y i j h k)) ∙ inv ∙ fused-merge x y (subst IsValid (sym ea) s) (subst IsValid (sym eb) t) ∙ cc
