-- How it is explained that a bin is overfull. What a reader believes after this file: with what the
-- literals leave of the domains, the load at the bin is still more than an item's room there.
use Rattle.std.specs.Prelude.{◌≡◌, ◌<◌, ℕ, zero, suc, true, cond, List, [], ◌∷◌, ℤ, pos, ◌+ℤ◌, ◌≤ℤ◌, slice_index_or, length}
use Rattle.signed_clause.specs.Clauses.{Boxes, Literals, box_of}
use Rattle.ground_form.specs.Bounds.{low_of, high_of}
use Rattle.box_view.specs.Views.{cut}
use Rattle.box_rules.specs.Refuted.{fixed_at}
use Rattle.pack_prop.specs.Collected.{AreCollected}

-- the least sizes of the items whose bin is fixed at v, of the first k items in the first boxes, of
-- the others in the second
abbrev pub loads_at : ℤ → ℕ → List (ℕ × ℕ × ℕ) → Boxes → Boxes → ℤ
loads_at v k [] one two = pos 0
loads_at v zero (i ∷ is) one two =
    cond (fixed_at (box_of two i.0) v) (low_of (box_of two i.1) +ℤ loads_at v zero is one two)
    (loads_at v zero is one two)
loads_at v (suc k) (i ∷ is) one two =
    cond (fixed_at (box_of one i.0) v) (low_of (box_of one i.1) +ℤ loads_at v k is one two)
    (loads_at v k is one two)

-- what the literals leave of the domains fixes item i at v, whose room there is at most `room`, and
-- has a load of the first m items that with the others' in the boxes is more than that, by one and
-- what is to spare
pub record AreLoaded (v : ℤ) (i : ℕ × ℕ × ℕ) (items : List (ℕ × ℕ × ℕ)) (domains boxes : Boxes) (m : ℕ) (room spare : ℤ) (ls : Literals) : Type 0 where
  pub literals : AreCollected boxes ls
  pub fixed : fixed_at (box_of (cut domains ls) i.0) v ≡ true
  pub upto : high_of (box_of (cut domains ls) i.2) ≤ℤ room
  pub some : pos 0 ≤ℤ spare
  pub more : ((room +ℤ pos 1) +ℤ spare) ≤ℤ loads_at v m items (cut domains ls) boxes

-- the same for some item and some room
pub record AreOverfull (v : ℤ) (items : List (ℕ × ℕ × ℕ)) (domains boxes : Boxes) (m : ℕ) (spare : ℤ) (ls : Literals) : Type 0 where
  pub index : ℕ
  pub there : index < length items
  pub room : ℤ
  pub loaded : AreLoaded v (slice_index_or items index (0, 0, 0)) items domains boxes m room spare
      ls
