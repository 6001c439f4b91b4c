-- Boxes that views stand for. What a reader believes after this file: they are the boxes with one
-- value in place of a box, or what the sets of a clause leave of each domain.
use Rattle.std.specs.Prelude.{ℕ, suc, [], ◌∷◌, ℤ, slice_set}
use Rattle.signed_clause.specs.SetAlgebra.{less}
use Rattle.signed_clause.specs.Clauses.{Boxes, Literals, set_of}

-- the boxes with that of x replaced by the value v alone
abbrev pub fixing : Boxes → ℕ → ℤ → Boxes
fixing boxes x v = slice_set boxes x ((v, v) ∷ [])

-- the boxes less the clause's sets; the first box is that of variable n
abbrev pub cut_from : ℕ → Boxes → Literals → Boxes
cut_from n [] c = []
cut_from n (d ∷ ds) c = less d (set_of c n) ∷ cut_from (suc n) ds c

-- what is left of the domains where no literal is true
abbrev pub cut : Boxes → Literals → Boxes
cut domains c = cut_from 0 domains c
