-- Lists of terms. What a reader believes after this file: which list two lists of terms make
-- together, and which one is a list times a number.
use Rattle.std.specs.Prelude.{ℕ, cond, List, [], ◌∷◌, ℤ, pos, ◌+ℤ◌, ◌*ℤ◌, nat_lt}
use Rattle.std.specs.Ordering.{int_eq}

-- the terms times a number
abbrev pub scaled : ℤ → List (ℤ × ℕ) → List (ℤ × ℕ)
scaled c [] = []
scaled c (t ∷ ts) = (c *ℤ t.0, t.1) ∷ scaled c ts

-- a term in front, where its coefficient isn't 0
abbrev pub with_term : ℤ → ℕ → List (ℤ × ℕ) → List (ℤ × ℕ)
with_term c x ts = cond (int_eq c (pos 0)) ts ((c, x) ∷ ts)

-- what `t ∷ a` and the terms add up to, where `rest` adds a to what is left of them: of two lists
-- of ascending variables one of ascending variables
abbrev pub merge_from : (List (ℤ × ℕ) → List (ℤ × ℕ)) → ℤ × ℕ → List (ℤ × ℕ) → List (ℤ × ℕ)
merge_from rest t [] = t ∷ rest []
merge_from rest t (u ∷ b) =
    cond (nat_lt t.1 u.1) (t ∷ rest (u ∷ b))
    (cond (nat_lt u.1 t.1) (u ∷ merge_from rest t b) (with_term (t.0 +ℤ u.0) t.1 (rest b)))

-- both lists, with one term for each variable
abbrev pub merged : List (ℤ × ℕ) → List (ℤ × ℕ) → List (ℤ × ℕ)
merged [] b = b
merged (t ∷ a) b = merge_from (merged a) t b
