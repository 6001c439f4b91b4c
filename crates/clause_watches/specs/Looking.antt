-- What a look at the literals of a clause finds. What a reader believes after this file: a literal
-- that is found is one of a variable that isn't named yet, and meets its box; and with each look
-- that isn't an answer less is left to do.
use Rattle.std.specs.Prelude.{◌≡◌, ℕ, ◌<◌, ◌≤◌, ◌+◌, false, true, List, [], ◌∷◌, ℤ, length, slice_index_or}
use Rattle.signed_clause.specs.SetAlgebra.{is_disjoint}
use Rattle.signed_clause.specs.Clauses.{Boxes, Literals, box_of}
use Rattle.clause_watches.specs.declared.rest.Rest.{Rest}
use Rattle.clause_watches.specs.declared.rest.Rest.TheVariants.{Listed, Half, On, Held}
use Rattle.clause_watches.specs.declared.watch.Link.{Link}
use Rattle.clause_watches.specs.declared.watch.Witness.{Witness}
use Rattle.clause_watches.specs.Watching.{clause_of, rest_of, Meets, IsKnown}
use Rattle.clause_watches.specs.Rows.{names, IsTrueOf}
use Rattle.clause_watches.specs.Sound.{least_at, sets_at}

-- a literal that the rest names, or that doesn't meet its box
pub record IsOut (boxes : Boxes) (rest : Rest) (l : ℕ × List (ℤ × ℤ)) : Type 0 where
  pub disjoint : names rest l.0 ≡ false → is_disjoint l.1 (box_of boxes l.0) ≡ true

-- a right witness of a literal that meets the box
pub record IsShown (leasts : List ℤ) (at : List (ℤ × ℤ)) (l : ℕ × List (ℤ × ℤ)) (w : Witness) :
    Type 0 where
  pub meets : is_disjoint l.1 at ≡ false
  pub right : IsTrueOf (least_at leasts l.0) l.1 w

-- none of the literals from one index to before another is so
abbrev pub AreOutBetween : Boxes → Rest → Literals → ℕ → ℕ → Type 0
AreOutBetween boxes rest c from to = (k : ℕ) → from ≤ k → k < to → (d : ℕ × List (ℤ × ℤ)) →
    IsOut boxes rest (slice_index_or c k d)

-- a right watch of clause i for a variable that the rest doesn't name and whose literal meets
pub record IsLink (boxes : Boxes) (added : List (ℕ × Literals)) (leasts : List ℤ) (i : ℕ)
    (rest : Rest) (l : Link) : Type 0 where
  pub clause : l.watch.clause ≡ i
  pub there : l.variable < length boxes
  pub unnamed : names rest l.variable ≡ false
  pub meets : Meets boxes (clause_of added i) l.variable
  pub right : IsTrueOf (least_at leasts l.variable) (sets_at added l.variable i) l.watch.witness

-- what is known once the literal of x is found to meet, too
abbrev pub linked : ℕ → Rest → Rest
linked x Listed = Half x
linked x (Half y) = On y x
linked x (On y z) = On y z
linked x (Held y) = Held y

-- what is known of each clause is true in the boxes
abbrev pub AreKnownNow : Boxes → List (ℕ × Literals) → List Rest → Type 0
AreKnownNow boxes added rests = (i : ℕ) → IsKnown boxes (clause_of added i) (rest_of rests i)

-- how many literals may still be found
abbrev pub left_of : Rest → ℕ
left_of Listed = 2
left_of (Half x) = 1
left_of (On x y) = 0
left_of (Held x) = 0

abbrev pub left_in : List Rest → ℕ
left_in [] = 0
left_in (r ∷ rs) = left_of r + left_in rs
