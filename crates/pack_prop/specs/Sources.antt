-- What an overfull bin is, and what its explanation stands on.
use Rattle.std.specs.Prelude.{ℕ, ◌≡◌, ◌<◌, true, false, pos, ◌≤ℤ◌, List, ℤ, slice_set, slice_index_or, int_lt, length, Bool, ◌&&◌, ◌||◌, [], ◌∷◌}
use Rattle.std.specs.List.{All}
use Rattle.signed_clause.specs.Ranges.{Ranges, is_nil, IsValid}
use Rattle.signed_clause.specs.SetAlgebra.{is_within}
use Rattle.signed_clause.specs.Clauses.{Boxes, box_of}
use Rattle.ground_form.specs.Bounds.{low_of, high_of}
use Rattle.box_rules.specs.Refuted.{fixed_at, fixed_load}
use Rattle.rule_law.specs.Answers.{AreBoxesWithin}
use Rattle.box_rules.specs.Named.{AreItemsNamed}

-- the boxes with a part of that of x in its place
abbrev pub with_part : Boxes → ℕ → Ranges → Boxes
with_part boxes x part = slice_set boxes x part

-- item k is fixed at v, and the load there is more than its greatest room
pub record IsOverfilled (v : ℤ) (items : List (ℕ × ℕ × ℕ)) (boxes : Boxes) (k : ℕ) : Type 0 where
  pub there : k < length items
  pub fixed : fixed_at (box_of boxes (slice_index_or items k (0, 0, 0)).0) v ≡ true
  pub over : int_lt (high_of (box_of boxes (slice_index_or items k (0, 0, 0)).2))
      (fixed_load v items boxes) ≡ true

-- some item of the list is fixed at v, and the load is more than its greatest room
abbrev pub some_over : ℤ → ℤ → List (ℕ × ℕ × ℕ) → Boxes → Bool
some_over v load [] boxes = false
some_over v load (i ∷ is) boxes =
    (fixed_at (box_of boxes i.0) v && int_lt (high_of (box_of boxes i.2)) load)
    || some_over v load is boxes

-- the part has values of the box of x, and the boxes are those of a well made constraint
pub record IsPart (domains boxes : Boxes) (items : List (ℕ × ℕ × ℕ)) (x : ℕ) (s : Ranges) : Type 0 where
  pub boxes_within : AreBoxesWithin domains boxes
  pub domain_sets : All (λ d. IsValid d) domains
  pub named : AreItemsNamed items boxes
  pub sizes : All (λ i. pos 0 ≤ℤ low_of (box_of domains i.1)) items
  pub var : x < length boxes
  pub valid : IsValid s
  pub some : is_nil s ≡ false
  pub within : is_within s (box_of boxes x) ≡ true
