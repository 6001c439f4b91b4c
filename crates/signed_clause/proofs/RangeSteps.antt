-- What a loop over ranges does in one step.
use Rattle.std.proofs.Common.{◌≡◌, true, false, ◌||◌, ℕ, suc, zero, ◌+◌, ◌-◌, ◌<◌, ◌≤◌, not, ◌&&◌, List, [], ◌∷◌, ℤ, pos, ◌+ℤ◌, ◌≤ℤ◌, ◌<ℤ◌, length, get_or, drop, refl, sym, ap, ◌∙◌, arith, ◌⊎◌, inl, inr, add-one, drop-cons, subst, Some}
use Rattle.std.specs.Prelude.{int_le, int_lt}
use Rattle.std.proofs.lemmas.Int.{ints, clamps}
use Rattle.signed_clause.specs.Ranges.{Ranges, has, Ascends, IsValid, high_from, greatest_of}
use Rattle.signed_clause.specs.SetAlgebra.{meet, less, join}
use Rattle.signed_clause.proofs.RangeLaws.{has-below, Ascends-weaken, Ascends-meet, has-meet, Ascends-less, has-less, Ascends-join, has-join}

-- what is left is r and then the rest
pub left_at : {X : Type 0} (xs : List X) (i : ℕ) (r d : X) → i < length xs → r ≡ get_or xs i d → drop i xs ≡ r ∷ drop (i + 1) xs
left_at xs i r d h e = rw add-one (drop-cons xs i d h ∙ ap (λ x. x ∷ drop (suc i) xs) (sym e))

pub left_none : {X : Type 0} (xs : List X) (i : ℕ) → length xs ≤ i → drop i xs ≡ []
left_none [] zero h = refl
left_none [] (suc i) h = refl
left_none (x ∷ xs) zero h = absurd (omega arith)
left_none (x ∷ xs) (suc i) h = left_none xs i (omega arith)

pub Ascends-drop : (low top : ℤ) (rs : Ranges) (i : ℕ) → Ascends low top rs → Ascends low top (drop i rs)
Ascends-drop low top [] zero s = s
Ascends-drop low top [] (suc i) s = s
Ascends-drop low top (r ∷ rs) zero s = s
Ascends-drop low top (r ∷ rs) (suc i) s = Ascends-weaken low (r.1 +ℤ pos 2) top (drop i rs) (omega (arith, ints)) (Ascends-drop (r.1 +ℤ pos 2) top rs i s.2)

pub meet-none : (a : Ranges) → meet a [] ≡ []
meet-none [] = refl
meet-none (r ∷ a) = refl

-- the first range that reaches v decides
pub has-first : (low top : ℤ) (r : ℤ × ℤ) (rs : Ranges) (v : ℤ) → Ascends low top (r ∷ rs) → v ≤ℤ r.1 → int_le r.0 v ≡ has (r ∷ rs) v
has-first low top r rs v s h = let below = has-below (r.1 +ℤ pos 2) top rs v s.2 in grind (arith, ints)

pub has-later : (r : ℤ × ℤ) (rs : Ranges) (v : ℤ) → r.1 <ℤ v → has (r ∷ rs) v ≡ has rs v
has-later r rs v h = grind (arith, ints)

-- each range begins and ends within the span
end-in : (low top : ℤ) (rs : Ranges) (i : ℕ) → Ascends low top rs → i < length rs → low ≤ℤ (get_or rs i (pos 0, pos 0)).1
end-in low top [] i s h = absurd (omega arith)
end-in low top (r ∷ rs) zero s h = omega (arith, ints)
end-in low top (r ∷ rs) (suc i) s h = let rest = end-in (r.1 +ℤ pos 2) top rs i s.2 (omega arith) in omega (arith, ints)

-- past a range that ends before v
has-drop : (low top : ℤ) (rs : Ranges) (i : ℕ) (v : ℤ) → Ascends low top rs → i < length rs → (get_or rs i (pos 0, pos 0)).1 <ℤ v → has (drop (suc i) rs) v ≡ has rs v
has-drop low top [] i v s h lt = absurd (omega arith)
has-drop low top (r ∷ rs) zero v s h lt = sym (has-later r rs v lt)
has-drop low top (r ∷ rs) (suc i) v s h lt =
    let later = end-in (r.1 +ℤ pos 2) top rs i s.2 (omega arith) in
    has-drop (r.1 +ℤ pos 2) top rs i v s.2 (omega arith) lt ∙ sym (has-later r rs v (omega (arith, ints)))

-- the halves of a search for v: it is in none of the ranges up to one that ends before it
pub search-upper : (self xs : Ranges) (i : ℕ) (v : ℤ) → IsValid self → xs ≡ self → i < length xs → int_lt (get_or xs i (pos 0, pos 0)).1 v ≡ true → has (drop (i + 1) xs) v ≡ has self v
search-upper self xs i v s e h lt = rw add-one (has-drop _ _ xs i v (subst IsValid (sym e) s) h (grind (arith, ints)) ∙ ap (λ (z : Ranges). has z v) e)

-- and where all before a range end before v, and that doesn't, it decides
pub search-found : (self xs : Ranges) (i : ℕ) (v : ℤ) → IsValid self → xs ≡ self → i < length xs → has (drop i xs) v ≡ has self v →
    int_lt (get_or xs i (pos 0, pos 0)).1 v ≡ false → int_le (get_or xs i (pos 0, pos 0)).0 v ≡ has self v
search-found self xs i v s e h inv le =
    let left = left_at xs i (get_or xs i (pos 0, pos 0)) (pos 0, pos 0) h refl in
    let span = subst IsValid left (Ascends-drop _ _ xs i (subst IsValid (sym e) s)) in
    has-first _ _ _ _ v span (grind (arith, ints)) ∙ sym (ap (λ (ys : Ranges). has ys v) left) ∙ inv

-- where the search ends, low and high are one place
pub search-end : (self xs : Ranges) (low high : ℕ) (v : ℤ) → IsValid self → xs ≡ self → low < length xs → has (drop low xs) v ≡ has self v → low ≤ high → high ≤ low →
    (high < length xs → int_lt (get_or xs high (pos 0, pos 0)).1 v ≡ false) → int_le (get_or xs low (pos 0, pos 0)).0 v ≡ has self v
search-end self xs low high v s e h inv le ge reached =
    let same : low ≡ high = omega arith in
    search-found self xs low v s e h inv (subst (λ (i : ℕ). i < length xs → int_lt (get_or xs i (pos 0, pos 0)).1 v ≡ false) (sym same) reached h)

-- and where all end before v, it is no value
pub search-none : (self xs : Ranges) (i : ℕ) (v : ℤ) → length xs ≤ i → has (drop i xs) v ≡ has self v → has self v ≡ false
search-none self xs i v h inv = sym inv ∙ ap (λ (ys : Ranges). has ys v) (left_none xs i h)

-- nothing is left of one of the two
pub meet-done : (a b : Ranges) (i j : ℕ) → (length a ≤ i) ⊎ (length b ≤ j) → meet (drop i a) (drop j b) ≡ []
meet-done a b i j (inl h) = rw (left_none a i h) refl
meet-done a b i j (inr h) = rw (left_none b j h) (meet-none (drop i a))

pub IsValid-meet : (a b : Ranges) → IsValid a → IsValid b → IsValid (meet a b)
IsValid-meet a b s t = Ascends-meet a b _ _ _ _ s t (omega (arith, ints, clamps))

pub has-meet_valid : (a b : Ranges) → IsValid a → IsValid b → (v : ℤ) → has (meet a b) v ≡ (has a v && has b v)
has-meet_valid a b s t v = has-meet a b _ _ _ _ v s t

pub IsValid-less : (a b : Ranges) → IsValid a → IsValid b → IsValid (less a b)
IsValid-less a b s t = Ascends-less a b _ _ _ _ _ s t (omega (arith, ints))

pub has-less_valid : (a b : Ranges) → IsValid a → IsValid b → (v : ℤ) → has (less a b) v ≡ (has a v && not (has b v))
has-less_valid a b s t v = has-less a b _ _ _ _ v s t

pub IsValid-join : (a b : Ranges) → IsValid a → IsValid b → IsValid (join a b)
IsValid-join a b s t = Ascends-join a b _ _ s t

pub has-join_valid : (a b : Ranges) → IsValid a → IsValid b → (v : ℤ) → has (join a b) v ≡ (has a v || has b v)
has-join_valid a b s t v = has-join a b _ _ v s t

pub high_at : (v : ℤ) (rs : Ranges) (n : ℕ) → length rs ≡ suc n → high_from v rs ≡ (get_or rs n (pos 0, pos 0)).1
high_at v [] n h = absurd (omega arith)
high_at v (r ∷ []) zero h = refl
high_at v (r ∷ []) (suc n) h = absurd (omega arith)
high_at v (r ∷ s ∷ rs) zero h = absurd (omega arith)
high_at v (r ∷ s ∷ rs) (suc n) h = high_at r.1 (s ∷ rs) n (omega arith)

-- the greatest value is the end of the last range
pub greatest_at : (rs : Ranges) → 0 < length rs → greatest_of rs ≡ Some (get_or rs (length rs - 1) (pos 0, pos 0)).1
greatest_at [] h = absurd (omega arith)
greatest_at (r ∷ rs) h = ap Some (high_at (pos 0) (r ∷ rs) (length (r ∷ rs) - 1) (omega arith))
