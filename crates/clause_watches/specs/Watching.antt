-- Which clauses are still to be looked at, and why the others need no look. What a reader believes
-- after this file: a clause rests where the literals of two variables meet their boxes, or where
-- one literal holds its whole box; such a clause is neither unit nor false. Watches fit boxes where
-- what they know of each clause is true there.
use Rattle.std.specs.Prelude.{◌≡◌, ◌≢◌, ℕ, ◌<◌, Bool, true, false, ◌||◌, ◌==◌, cond, List, [], is_some, length, slice_index_or}
use Rattle.signed_clause.specs.Ranges.{IsValid, IsSubset, is_nil}
use Rattle.signed_clause.specs.SetAlgebra.{is_disjoint, is_within}
use Rattle.signed_clause.specs.Clauses.{Boxes, Literals, box_of, set_of, false_in, unit_of}
use Rattle.clause_watches.specs.declared.rest.Rest.{Rest}
use Rattle.clause_watches.specs.declared.rest.Rest.TheVariants.{Listed, Half, On, Held}

-- what contracts see of watches: the added clauses with their numbers, in order, and for each of
-- them what is known of it
pub record Watching : Type 0 where
  pub variables : ℕ
  pub added : List (ℕ × Literals)
  pub rests : List Rest

-- the clause that was added as the i-th
abbrev pub clause_of : List (ℕ × Literals) → ℕ → Literals
clause_of added i = (slice_index_or added i (0, [])).1

-- what is known of it
abbrev pub rest_of : List Rest → ℕ → Rest
rest_of rests i = slice_index_or rests i Listed

-- it is still to be looked at
abbrev pub is_listed : Rest → Bool
is_listed Listed = true
is_listed (Half x) = true
is_listed (On x y) = false
is_listed (Held x) = false

-- ---- why a clause needs no look

-- the clause is false in the boxes, or unit
abbrev pub acts : Boxes → Literals → Bool
acts boxes c = false_in boxes c || is_some (unit_of boxes c)

-- what the clause says of x can still be true
abbrev pub Meets : Boxes → Literals → ℕ → Type 0
Meets boxes c x = is_disjoint (set_of c x) (box_of boxes x) ≡ false

-- two different variables are watched, and both meet
pub record IsWatched (boxes : Boxes) (c : Literals) (x y : ℕ) : Type 0 where
  pub differ : x ≢ y
  pub one : Meets boxes c x
  pub other : Meets boxes c y

-- what the clause says of x is true
pub record IsHeld (boxes : Boxes) (c : Literals) (x : ℕ) : Type 0 where
  pub meets : Meets boxes c x
  pub within : is_within (box_of boxes x) (set_of c x) ≡ true

-- what is known of the clause is true in the boxes
abbrev pub IsKnown : Boxes → Literals → Rest → Type 0
IsKnown boxes c Listed = Unit {0}
IsKnown boxes c (Half x) = Meets boxes c x
IsKnown boxes c (On x y) = IsWatched boxes c x y
IsKnown boxes c (Held x) = IsHeld boxes c x

-- what the watches know of each clause is true in the boxes
abbrev pub Fits : Boxes → Watching → Type 0
Fits boxes w = (i : ℕ) → IsKnown boxes (clause_of w.added i) (rest_of w.rests i)

-- ---- when boxes change

-- the rest is by the literal of x alone
abbrev pub holds : Rest → ℕ → Bool
holds Listed x = false
holds (Half y) x = false
holds (On y z) x = false
holds (Held y) x = y == x

-- what is still known of a clause where some boxes may have become narrower: that a literal meets
-- its box may be over, that it holds its whole box stays
abbrev pub without : (ℕ → Bool) → Rest → Rest
without gone Listed = Listed
without gone (Half x) = cond (gone x) Listed (Half x)
without gone (On x y) =
    cond (gone x) (cond (gone y) Listed (Half y)) (cond (gone y) (Half x) (On x y))
without gone (Held x) = Held x

-- where that of x may have
abbrev pub touched : ℕ → Rest → Rest
touched x r = without (λ y. x == y) r

-- the boxes are the same but for that of x
abbrev pub DifferAt : ℕ → Boxes → Boxes → Type 0
DifferAt x a b = (y : ℕ) → y ≢ x → box_of a y ≡ box_of b y

-- the box of x became narrower, and has values left; the others are the same
pub record NarrowsAt (x : ℕ) (a b : Boxes) : Type 0 where
  pub others : DifferAt x a b
  pub before_valid : IsValid (box_of a x)
  pub after_valid : IsValid (box_of b x)
  pub some : is_nil (box_of b x) ≡ false
  pub within : IsSubset (box_of b x) (box_of a x)

-- it became wider
pub record WidensAt (x : ℕ) (a b : Boxes) : Type 0 where
  pub others : DifferAt x a b
  pub before_valid : IsValid (box_of a x)
  pub after_valid : IsValid (box_of b x)
  pub within : IsSubset (box_of a x) (box_of b x)

-- ---- what is answered

-- some clause with the number is false in the boxes or unit, and is still listed
pub record IsActing (boxes : Boxes) (w : Watching) (number : ℕ) : Type 0 where
  pub index : ℕ
  pub there : index < length w.added
  pub numbered : (slice_index_or w.added index (0, [])).0 ≡ number
  pub acting : acts boxes (clause_of w.added index) ≡ true
  pub listed : is_listed (rest_of w.rests index) ≡ true
