-- How it is kept which constraints are listed. What a reader believes after this file: the order
-- has each marked number once and no other, so it is never longer than there are marks; and the
-- rows are filled one constraint after the other.
use Rattle.std.specs.Prelude.{◌≡◌, ℕ, suc, ◌<◌, ◌==◌, Bool, true, cond, List, [], ◌∷◌, Some, length, slice_get}
use Rattle.ground_form.specs.declared.con.Con.{Con}
use Rattle.rule_law.specs.Reasons.{has_number}
use Rattle.prop_queue.specs.Work.{is_marked, row_of, listed_vars}

-- ---- marks

-- how often the number stands in the list
abbrev pub occurs : ℕ → List ℕ → ℕ
occurs k [] = 0
occurs k (x ∷ xs) = cond (x == k) (suc (occurs k xs)) (occurs k xs)

-- which numbers are listed, and in which order they are taken
pub record Listed : Type 0 where
  pub marks : List Bool
  pub order : List ℕ

abbrev pub listed : List Bool → List ℕ → Listed
listed marks order = record { marks = marks; order = order }

-- how many are marked
abbrev pub count_marked : List Bool → ℕ
count_marked [] = 0
count_marked (m ∷ ms) = cond m (suc (count_marked ms)) (count_marked ms)

-- each marked number stands in the order once, and no other stands there
pub record IsKept (marks : List Bool) (order : List ℕ) : Type 0 where
  pub stands : (k : ℕ) → occurs k order ≡ cond (is_marked marks k) 1 0
  pub count : length order ≡ count_marked marks

-- ---- rows

-- each row has numbers below n alone
abbrev pub AreBelow : ℕ → List (List ℕ) → Type 0
AreBelow n rows = (x k : ℕ) → has_number k (row_of rows x) ≡ true → k < n

-- rows and other constraints have numbers below n alone, and each row's variable is watched
pub record HasRoom (n : ℕ) (rows : List (List ℕ)) (others : List ℕ) (variables : ℕ) : Type 0 where
  pub listed : AreBelow n rows
  pub whole : (k : ℕ) → has_number k others ≡ true → k < n
  pub watched : variables ≡ length rows

-- the rows are those of the first n constraints
pub record IsFilled (cons : List Con) (rows : List (List ℕ)) (n : ℕ) : Type 0 where
  pub below : AreBelow n rows
  pub named : (x k : ℕ) (con : Con) → slice_get cons k ≡ Some con → k < n
      → has_number k (row_of rows x) ≡ has_number x (listed_vars con)
