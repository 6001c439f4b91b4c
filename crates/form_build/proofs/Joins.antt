-- Sets that are joined: none of them is empty where one part isn't.
use Rattle.std.proofs.Common.{◌≡◌, ℕ, zero, suc, ◌<◌, ◌≤◌, Bool, true, false, cond, List, [], ◌∷◌, ℤ, ◌+ℤ◌, ◌≤ℤ◌, pos, length, All, refl, sym, ap, ◌∙◌, subst, arith}
use Rattle.std.specs.Prelude.{int_lt}
use Rattle.std.specs.Int.{int_max, int_min}
use Rattle.std.proofs.lemmas.Int.{ints}
use Rattle.signed_clause.specs.Ranges.{Ranges, has, is_nil, IsValid}
use Rattle.signed_clause.specs.SetAlgebra.{join, with_range}
use Rattle.signed_clause.specs.Clauses.{Boxes, box_of}
use Rattle.ground_form.specs.Bounds.{low_of}
use Rattle.ground_form.specs.WellMade.{lacks_value}
use Rattle.ground_build.specs.NewDomains.{picked_domain, when_domain}
use Rattle.form_build.specs.Worlds.{AreSome}

either : (p q : Bool) (s u : ℤ × ℤ) (x y z : Ranges) → is_nil z ≡ false → is_nil (cond p (s ∷ x) (cond q (u ∷ y) z)) ≡ false
either true q s u x y z h = refl
either false true s u x y z h = refl
either false false s u x y z h = h

with_range_some : (low high : ℤ) (b : Ranges) → is_nil (with_range low high b) ≡ false
with_range_some low high [] = refl
with_range_some low high (s ∷ b) =
    either (int_lt (s.1 +ℤ pos 1) low) (int_lt (high +ℤ pos 1) s.0) s (low, high) (with_range low high b) (s ∷ b) (with_range (int_min low s.0) (int_max high s.1) b)
    (with_range_some (int_min low s.0) (int_max high s.1) b)

pub join_left : (a b : Ranges) → is_nil a ≡ false → is_nil (join a b) ≡ false
join_left [] b h = absurd cc
join_left (r ∷ a) b h = with_range_some r.0 r.1 (join a b)

pub join_right : (a b : Ranges) → is_nil b ≡ false → is_nil (join a b) ≡ false
join_right [] b h = h
join_right (r ∷ a) b h = with_range_some r.0 r.1 (join a b)

-- ---- picks

picked_keeps : (made : Ranges) (items : List (ℤ × ℕ)) (boxes : Boxes) → is_nil made ≡ false → is_nil (picked_domain made items boxes) ≡ false
picked_keeps made [] boxes h = h
picked_keeps made (t ∷ ts) boxes h = picked_keeps (join made (box_of boxes t.1)) ts boxes (join_left made (box_of boxes t.1) h)

pub low_there : (s : Ranges) → IsValid s → is_nil s ≡ false → has s (low_of s) ≡ true
low_there [] v h = absurd cc
low_there (r ∷ rs) v h = grind (arith, ints)

pub box_some : (boxes : Boxes) (x : ℕ) → AreSome boxes → x < length boxes → is_nil (box_of boxes x) ≡ false
box_some boxes x h lt = h x [] lt

picked_first : (items : List (ℤ × ℕ)) (boxes : Boxes) (v : ℤ) → AreSome boxes → All (λ t. t.1 < length boxes) items → lacks_value v items ≡ false → is_nil (picked_domain [] items boxes) ≡ false
picked_first [] boxes v h there e = absurd cc
picked_first (t ∷ ts) boxes v h there e = picked_keeps (box_of boxes t.1) ts boxes (box_some boxes t.1 h (there 0 t (omega arith)))

-- a pick has a value, since its index has one
pub picked_some : (items : List (ℤ × ℕ)) (boxes : Boxes) (index : ℕ) → AreSome boxes → All (λ d. IsValid d) boxes → index < length boxes → All (λ t. t.1 < length boxes) items → ((v : ℤ) → has (box_of boxes index) v ≡ true → lacks_value v items ≡ false) → is_nil (picked_domain [] items boxes) ≡ false
picked_some items boxes index h valid lt there held =
    let low = low_there (box_of boxes index) (valid index [] lt) (box_some boxes index h lt) in
    picked_first items boxes (low_of (box_of boxes index)) h there (held (low_of (box_of boxes index)) low)

pub when_some : (item : ℕ) (boxes : Boxes) → is_nil (when_domain item boxes) ≡ false
when_some item boxes = join_right (box_of boxes item) ((pos 0, pos 0) ∷ []) refl
