-- Which numbers wait. What a reader believes after this file: the list of a work list has each
-- marked number once and no other, so it is never longer than there are marks.
use Rattle.std.specs.Prelude.{◌≡◌, ℕ, suc, ◌==◌, Bool, false, cond, List, [], ◌∷◌, length, slice_index_or}

-- the mark of k; numbers past the end have none
abbrev pub is_marked : List Bool → ℕ → Bool
is_marked marks k = slice_index_or marks k false

-- how many are marked
abbrev pub count_marked : List Bool → ℕ
count_marked [] = 0
count_marked (m ∷ ms) = cond m (suc (count_marked ms)) (count_marked ms)

-- how often the number stands in the list
abbrev pub occurs : ℕ → List ℕ → ℕ
occurs k [] = 0
occurs k (x ∷ xs) = cond (x == k) (suc (occurs k xs)) (occurs k xs)

-- each marked number stands in the list once, and no other stands there
pub record IsKept (marks : List Bool) (list : List ℕ) : Type 0 where
  pub stands : (k : ℕ) → occurs k list ≡ cond (is_marked marks k) 1 0
  pub count : length list ≡ count_marked marks
