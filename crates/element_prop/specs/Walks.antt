-- What a walk over the items of an element finds. What a reader believes after this file: which
-- items a walk has passed over, and when what it found tells of all items.
use Rattle.std.specs.Prelude.{◌≡◌, ℕ, ◌<◌, ◌+◌, Bool, true, List, ℤ, drop, length, slice_index_or}
use Rattle.signed_clause.specs.Ranges.{Ranges}
use Rattle.signed_clause.specs.Clauses.{Boxes, box_of}
use Rattle.element_prop.specs.declared.near.Near.{Near}
use Rattle.element_prop.specs.declared.element.Walk.{Walk}
use Rattle.element_prop.specs.declared.element.Walk.TheVariants as walk
use Rattle.element_prop.specs.declared.element.Finding.{Finding}
use Rattle.element_prop.specs.declared.element.Finding.TheVariants as finding
use Rattle.element_prop.specs.Elements.{HasToPick, all_meet, count_possible, lacks_var}
use Rattle.element_prop.specs.Near.{IsNear}

-- each item from one place up to the other one can be out, where the index can be its value; of so
-- many the index can; and where out and the index are said to be apart, none of these has their
-- variable
pub record IsPassed (items : List (ℤ × ℕ)) (from to o x : ℕ) (out index : Ranges) (boxes : Boxes) (count : ℕ) (apart : Bool) : Type 0 where
  pub meet : all_meet (drop from items) out index boxes ≡ all_meet (drop to items) out index boxes
  pub possible : count + count_possible (drop to items) index ≡ count_possible (drop from items) index
  pub lacks_out : apart ≡ true → lacks_var o (drop from items) index ≡ lacks_var o (drop to items) index
  pub lacks_index : apart ≡ true → lacks_var x (drop from items) index ≡ lacks_var x (drop to items) index

-- where out and the index are said to be apart, no item that the index may pick has their variable
pub record AreApart (items : List (ℤ × ℕ)) (near : Near) (o x : ℕ) (index : Ranges) : Type 0 where
  pub lacks_out : near.apart ≡ true → lacks_var o items index ≡ true
  pub lacks_index : near.apart ≡ true → lacks_var x items index ≡ true

-- no single item tells anything, and these are all that the index may pick
pub record IsOpen (items : List (ℤ × ℕ)) (o x : ℕ) (out index : Ranges) (boxes : Boxes) (near : Near) : Type 0 where
  pub meet : all_meet items out index boxes ≡ true
  pub places : IsNear items index near
  pub apart : AreApart items near o x index

-- the item at the index tells something
abbrev pub IsToldBy : List (ℤ × ℕ) → ℕ → Ranges → Ranges → Boxes → Type 0
IsToldBy items i out index boxes =
    (i < length items) × ((d : ℤ × ℕ) → HasToPick index (slice_index_or items i d).0
    (box_of boxes (slice_index_or items i d).1) out)

-- the same, with out and the item exchanged
abbrev pub IsToldOfOut : List (ℤ × ℕ) → ℕ → Ranges → Ranges → Boxes → Type 0
IsToldOfOut items i out index boxes =
    (i < length items) × ((d : ℤ × ℕ) → HasToPick index (slice_index_or items i d).0 out
    (box_of boxes (slice_index_or items i d).1))

-- what a walk tells
abbrev pub Tells : List (ℤ × ℕ) → Near → ℕ → ℕ → Ranges → Ranges → Boxes → Walk → Type 0
Tells items near o x out index boxes (walk.Met met) =
    IsPassed items near.from near.to o x out index boxes met.count met.apart
Tells items near o x out index boxes (walk.Item i) = IsToldBy items i out index boxes
Tells items near o x out index boxes (walk.Out i) = IsToldOfOut items i out index boxes

-- what a finding says
abbrev pub Says : List (ℤ × ℕ) → ℕ → ℕ → Ranges → Ranges → Boxes → Finding → Type 0
Says items o x out index boxes (finding.Open near) = IsOpen items o x out index boxes near
Says items o x out index boxes (finding.Item i) = IsToldBy items i out index boxes
Says items o x out index boxes (finding.Out i) = IsToldOfOut items i out index boxes
