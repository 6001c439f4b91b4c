-- Plans of explanations. What a reader believes after this file: a plan says of some variables
-- which values are left, and its literals say of each of them that it has another value of its
-- domain; and what a flag's box is.
use Rattle.std.specs.Prelude.{◌≡◌, true, false, [], ◌∷◌, ℤ, pos, ◌⊎◌}
use Rattle.signed_clause.specs.Ranges.{Ranges, has, is_nil, IsValid}
use Rattle.signed_clause.specs.SetAlgebra.{less}
use Rattle.signed_clause.specs.Clauses.{Boxes, Literals, box_of}
use Rattle.rule_law.specs.Reasons.{kept_one}

-- the literals of a plan; a variable whose whole domain is left has none
abbrev pub literals_of : Boxes → Literals → Literals
literals_of domains [] = []
literals_of domains (e ∷ es) = kept_one e.0 (less (box_of domains e.0) e.1) (literals_of domains es)

-- ---- flags

-- a box that isn't empty, of 0 and 1 at most
pub record IsFlag (box : Ranges) : Type 0 where
  pub valid : IsValid box
  pub some : is_nil box ≡ false
  pub bits : (v : ℤ) → has box v ≡ true → (v ≡ pos 0) ⊎ (v ≡ pos 1)
