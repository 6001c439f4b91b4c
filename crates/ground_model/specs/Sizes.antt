-- The members of a reference set, counted. What a reader believes after this file: which sum over a
-- set's cells is the number of its members.
use Rattle.std.specs.Prelude.{◌≡◌, ℕ, ◌<◌, List, [], ◌∷◌, ℤ, pos, length, map}
use Rattle.signed_clause.specs.Clauses.{box_of}
use Rattle.ground_form.specs.declared.ground.Ground.{Ground}

-- a term for each variable, with the coefficient 1
abbrev pub once : ℕ → ℤ × ℕ
once x = (pos 1, x)

abbrev pub each_once : List ℕ → List (ℤ × ℕ)
each_once xs = map once xs

-- x is the variable of a cell that is 0 or 1
pub record IsMemberCell (g : Ground) (x : ℕ) : Type 0 where
  pub searched : x < g.search
  pub exists : x < length g.domains
  pub box : box_of g.domains x ≡ (pos 0, pos 1) ∷ []
