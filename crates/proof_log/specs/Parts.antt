-- Texts cut at a separator.
use Rattle.std.specs.Prelude.{◌≡◌, ℕ, Bool, true, ◌==◌, List, ◌∷◌, ◌++◌, []}
use Rattle.proof_log.specs.Spelling.{lacks}

-- the text is empty or begins with the separator
abbrev pub heads : ℕ → List ℕ → Bool
heads s [] = true
heads s (b ∷ bs) = b == s

-- the text up to the first separator, and what is left
pub record IsCut (s : ℕ) (text before rest : List ℕ) : Type 0 where
  pub whole : text ≡ before ++ rest
  pub lacks : lacks s before ≡ true
  pub heads : heads s rest ≡ true

-- a separator, the text up to the next one, and what is left
pub record IsNextPart (s : ℕ) (text part rest : List ℕ) : Type 0 where
  pub whole : text ≡ s ∷ part ++ rest
  pub lacks : lacks s part ≡ true
  pub heads : heads s rest ≡ true
