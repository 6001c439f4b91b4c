-- Items whose values are counted.
use Rattle.std.specs.Prelude.{ℕ, suc, Bool, true, ◌&&◌, List, [], ◌∷◌, ℤ, pos}
use Rattle.std.specs.Ordering.{int_eq}

-- the items' values are k and those behind it
abbrev pub numbered : ℕ → List (ℤ × ℕ) → Bool
numbered k [] = true
numbered k (t ∷ ts) = int_eq t.0 (pos k) && numbered (suc k) ts
