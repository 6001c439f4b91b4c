-- Variables that have one value. What a reader believes after this file: which variable has which
-- value alone.
use Rattle.std.specs.Prelude.{◌≡◌, ℕ, ◌<◌, [], ◌∷◌, pos, length}
use Rattle.signed_clause.specs.Clauses.{Boxes, box_of}

-- the variable has this value alone
pub record IsConstant (boxes : Boxes) (x k : ℕ) : Type 0 where
  pub exists : x < length boxes
  pub box : box_of boxes x ≡ (pos k, pos k) ∷ []
