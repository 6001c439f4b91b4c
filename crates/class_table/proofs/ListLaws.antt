-- Lists, item by item.
use Rattle.std.proofs.Common.{◌≡◌, ℕ, zero, suc, ◌+◌, ◌<◌, List, [], ◌∷◌, length, get_or, drop, refl, ap, sym, subst, arith, ◌⊎◌, inl, inr}
use Rattle.std.specs.Prelude.{Contains}
use Rattle.std.specs.List.{flat_map}
use Rattle.std.proofs.lemmas.List.Elements.{Contains-append_left, Contains-append_right, Contains-append_cases}

-- what is left from an item on: the item and the rest
pub drop_next : {X : Type 0} (xs : List X) (i : ℕ) (x : X) → i < length xs → x ≡ get_or xs i x → drop i xs ≡ x ∷ drop (i + 1) xs
drop_next [] i x h e = absurd (omega (arith, h))
drop_next (y ∷ ys) zero x h e = ap (λ z. z ∷ ys) (sym e)
drop_next (y ∷ ys) (suc i) x h e =
    let same : suc (i + 1) ≡ suc i + 1 = omega arith in
    subst (λ k. drop i ys ≡ x ∷ drop k (y ∷ ys)) same (drop_next ys i x (omega (arith, h)) e)

-- an item of the lists of all is in the list of some item
pub contains_flat : {X Y : Type 0} (f : X → List Y) (xs : List X) (y : Y) → Contains (flat_map f xs) y → (x : X) × Contains xs x × Contains (f x) y
contains_flat f [] y c = absurd (omega (arith, c.1))
contains_flat f (x ∷ xs) y c = by (λ a. contains_flat f xs y a) (Contains-append_cases (f x) (flat_map f xs) y c)
  where
    by : (Contains (flat_map f xs) y → (z : _) × Contains xs z × Contains (f z) y) → Contains (f x) y ⊎ Contains (flat_map f xs) y → (z : _) × Contains (x ∷ xs) z × Contains (f z) y
    by more (inl a) = (x, (0, omega arith, refl), a)
    by more (inr a) = let m = more a in (m.0, (suc m.1.0, omega (arith, m.1.1), m.1.2), m.2)

pub flat_contains : {X Y : Type 0} (f : X → List Y) (xs : List X) (x : X) (y : Y) → Contains xs x → Contains (f x) y → Contains (flat_map f xs) y
flat_contains f [] x y c d = absurd (omega (arith, c.1))
flat_contains f (z ∷ zs) x y (zero, lt, e) d = Contains-append_left (f z) (flat_map f zs) y (subst (λ k. Contains (f k) y) (sym e) d)
flat_contains f (z ∷ zs) x y (suc k, lt, e) d = Contains-append_right (f z) (flat_map f zs) y (flat_contains f zs x y (k, omega (arith, lt), e) d)

pub contains_one : {X : Type 0} (x y : X) → Contains (x ∷ []) y → x ≡ y
contains_one x y (zero, lt, e) = e
contains_one x y (suc k, lt, e) = absurd (omega (arith, lt))

pub contains_none : {X : Type 0} (y : X) → Contains [] y → ⊥
contains_none y c = omega (arith, c.1)
