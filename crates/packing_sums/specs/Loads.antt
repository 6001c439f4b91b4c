-- Sizes at bins. What a reader believes after this file: how much of the items is at bins that
-- pass a test.
use Rattle.std.specs.Prelude.{ℕ, ◌+◌, Bool, cond, List, [], ◌∷◌, ℤ}
use Rattle.ground_form.specs.Meaning.{value_of}

-- the sizes of the items, each a bin and a size, whose bins pass the test, added up
abbrev pub sizes_where : (ℤ → Bool) → List (ℕ × ℕ) → List ℤ → ℕ
sizes_where test [] a = 0
sizes_where test (s ∷ rest) a = cond (test (value_of a s.0)) s.1 0 + sizes_where test rest a

-- all sizes together
abbrev pub size_of : List (ℕ × ℕ) → ℕ
size_of [] = 0
size_of (s ∷ rest) = s.1 + size_of rest
