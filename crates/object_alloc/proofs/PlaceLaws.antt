-- Texts up to the first of a byte.
use Rattle.std.proofs.Common.{◌≡◌, ℕ, zero, suc, ◌+◌, ◌-◌, ◌<◌, ◌≤◌, length-append, nat_eq, not, Bool, true, false, cond, List, [], ◌∷◌, ◌++◌, length, take, drop, get_or, refl, ap, sym, ◌∙◌, arith, eq-eqb, length-drop}
use Rattle.std.proofs.lemmas.Bool.{ne_eqb, eqb-true, not-true, and_parts}
use Rattle.std.proofs.lemmas.List.{take_all}
use Rattle.class_table.specs.Named.{lacks}
use Rattle.object_alloc.specs.Named.{first_place}

pub place_within : (b : ℕ) (xs : List ℕ) → first_place b xs ≤ length xs
place_within b [] = omega arith
place_within b (x ∷ xs) = by (nat_eq x b) (place_within b xs)
  where
    by : (t : Bool) → first_place b xs ≤ length xs → cond t 0 (suc (first_place b xs)) ≤ suc (length xs)
    by true h = omega arith
    by false h = omega arith

pub place_next : (b : ℕ) (xs : List ℕ) (i d : ℕ) → i < length xs → (get_or xs i d ≡ b → ⊥) → first_place b (drop i xs) ≡ suc (first_place b (drop (i + 1) xs))
place_next b [] i d h e = absurd (omega (arith, h))
place_next b (x ∷ xs) zero d h e = rw (ne_eqb x b e) refl
place_next b (x ∷ xs) (suc i) d h e = let at : suc i + 1 ≡ suc (i + 1) = omega arith in place_next b xs i d (omega (arith, h)) e ∙ ap (λ j. suc (first_place b (drop j (x ∷ xs)))) (sym at)

pub place_here : (b : ℕ) (xs : List ℕ) (i d : ℕ) → i < length xs → get_or xs i d ≡ b → first_place b (drop i xs) ≡ 0
place_here b [] i d h e = absurd (omega (arith, h))
place_here b (x ∷ xs) zero d h e = rw (eq-eqb x b e) refl
place_here b (x ∷ xs) (suc i) d h e = place_here b xs i d (omega (arith, h)) e

-- behind a text that lacks the byte
pub place_behind : (b : ℕ) (xs ys : List ℕ) → lacks b xs ≡ true → first_place b (xs ++ ys) ≡ length xs + first_place b ys
place_behind b [] ys h = omega arith
place_behind b (x ∷ xs) ys h =
    let p = and_parts (not (nat_eq x b)) (lacks b xs) h in
    let more = place_behind b xs ys p.1 in
    rw (not-true (nat_eq x b) p.0, more) (omega arith)

pub place_last : (b : ℕ) (xs : List ℕ) → lacks b xs ≡ true → first_place b xs ≡ length xs
place_last b [] h = refl
place_last b (x ∷ xs) h =
    let p = and_parts (not (nat_eq x b)) (lacks b xs) h in
    rw (not-true (nat_eq x b) p.0) (ap suc (place_last b xs p.1))

pub place_first : (b : ℕ) (ys : List ℕ) → first_place b (b ∷ ys) ≡ 0
place_first b ys = rw (eq-eqb b b refl) refl

-- what stands before the byte, the byte, and the rest
pub place_splits : (b : ℕ) (xs : List ℕ) → first_place b xs < length xs → xs ≡ take (first_place b xs) xs ++ b ∷ drop (first_place b xs + 1) xs
place_splits b [] h = absurd (omega arith)
place_splits b (x ∷ xs) h = by (nat_eq x b) refl (place_splits b xs) h
  where
    by : (t : Bool) → nat_eq x b ≡ t → (first_place b xs < length xs → xs ≡ take (first_place b xs) xs ++ b ∷ drop (first_place b xs + 1) xs) → cond t 0 (suc (first_place b xs)) < suc (length xs) → x ∷ xs ≡ take (cond t 0 (suc (first_place b xs))) (x ∷ xs) ++ b ∷ drop (cond t 0 (suc (first_place b xs)) + 1) (x ∷ xs)
    by true e more h = ap (λ y. y ∷ xs) (eqb-true x b e)
    by false e more h =
        let at : suc (first_place b xs) + 1 ≡ suc (first_place b xs + 1) = omega arith in
        ap (λ ys. x ∷ ys) (more (omega arith)) ∙ ap (λ j. x ∷ (take (first_place b xs) xs ++ b ∷ drop j (x ∷ xs))) (sym at)

pub take_front : (xs ys : List ℕ) → take (length xs) (xs ++ ys) ≡ xs
take_front [] ys = refl
take_front (x ∷ xs) ys = ap (λ zs. x ∷ zs) (take_front xs ys)

pub drop_front : (xs ys : List ℕ) → drop (length xs) (xs ++ ys) ≡ ys
drop_front [] ys = refl
drop_front (x ∷ xs) ys = drop_front xs ys

pub lacks_append : (b : ℕ) (xs ys : List ℕ) → lacks b xs ≡ true → lacks b ys ≡ true → lacks b (xs ++ ys) ≡ true
lacks_append b [] ys h k = k
lacks_append b (x ∷ xs) ys h k =
    let p = and_parts (not (nat_eq x b)) (lacks b xs) h in
    rw (p.0) (lacks_append b xs ys p.1 k)

-- a text between brackets
pub same_front : (a : ℕ) (xs ys : List ℕ) → xs ++ a ∷ [] ≡ ys ++ a ∷ [] → xs ≡ ys
same_front a [] [] e = refl
same_front a [] (y ∷ []) e = cc
same_front a [] (y ∷ z ∷ ys) e = cc
same_front a (x ∷ []) [] e = cc
same_front a (x ∷ z ∷ xs) [] e = cc
same_front a (x ∷ xs) (y ∷ ys) e =
    let first : x ≡ y = cc in
    let rest : xs ++ a ∷ [] ≡ ys ++ a ∷ [] = cc in
    ap (λ z. z ∷ xs) first ∙ ap (λ zs. y ∷ zs) (same_front a xs ys rest)

pub between : (xs ys : List ℕ) → 91 ∷ (xs ++ 93 ∷ []) ≡ ys → take (length ys - 1 - 1) (drop 1 ys) ≡ xs
between xs ys e =
    let size : length (91 ∷ (xs ++ 93 ∷ [])) ≡ suc (length xs + 1) = ap suc (length-append xs (93 ∷ [])) in
    let count : length (91 ∷ (xs ++ 93 ∷ [])) - 1 - 1 ≡ length xs = omega (arith, size) in
    ap (λ zs. take (length zs - 1 - 1) (drop 1 zs)) (sym e) ∙ ap (λ j. take j (xs ++ 93 ∷ [])) count ∙ take_front xs (93 ∷ [])

pub rest_is : (n : ℕ) (xs : List ℕ) → take (length xs - n) (drop n xs) ≡ drop n xs
rest_is n xs = take_all (length xs - n) (drop n xs) (omega (arith, length-drop n xs))
