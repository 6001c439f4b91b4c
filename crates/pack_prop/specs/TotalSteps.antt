-- How it is explained that all sizes are more than all room. What a reader believes after this
-- file: with what the literals leave of the domains, the items come to sizes and rooms that are as
-- good as those that were counted.
use Rattle.std.specs.Prelude.{◌≡◌, ◌<◌, ◌≤◌, ℕ, zero, suc, true, List, [], ◌∷◌, ℤ, pos, ◌+ℤ◌, ◌≤ℤ◌, ◌<ℤ◌, slice_index_or, length, ◌+◌}
use Rattle.std.specs.List.{All}
use Rattle.signed_clause.specs.Ranges.{has}
use Rattle.signed_clause.specs.Clauses.{Boxes, Literals, box_of}
use Rattle.ground_form.specs.Bounds.{low_of, high_of, last_bin}
use Rattle.box_view.specs.Views.{cut}
use Rattle.box_rules.specs.Refuted.{best_room}
use Rattle.pack_prop.specs.Collected.{AreCollected}
use Rattle.pack_prop.specs.RoomRows.{IsRow, row_sum}

-- wherever the item may be put, the row has at least its greatest room
abbrev pub IsSeated : List (ℤ × ℤ) → Boxes → ℕ × ℕ × ℕ → Type 0
IsSeated row boxes i =
    All (λ p. has (box_of boxes i.0) p.0 ≡ true → high_of (box_of boxes i.2) ≤ℤ p.1) row

-- all least sizes, those of the first k items in the first boxes, of the others in the second
abbrev pub sizes_at : ℕ → List (ℕ × ℕ × ℕ) → Boxes → Boxes → ℤ
sizes_at k [] one two = pos 0
sizes_at zero (i ∷ is) one two = low_of (box_of two i.1) +ℤ sizes_at zero is one two
sizes_at (suc k) (i ∷ is) one two = low_of (box_of one i.1) +ℤ sizes_at k is one two

-- what the literals leave of the domains seats the first k items, and has sizes of the first m that
-- with the others' in the boxes are more than the row's rooms, by one and what is to spare
pub record AreTotalled (items : List (ℕ × ℕ × ℕ)) (domains boxes : Boxes) (k m : ℕ) (row : List (ℤ × ℤ)) (spare : ℤ) (ls : Literals) : Type 0 where
  pub literals : AreCollected boxes ls
  pub first : ℤ
  pub last : ℤ
  pub in_order : IsRow first last row
  pub covers : All (λ i. (first ≤ℤ low_of (box_of domains i.0))
      × (high_of (box_of domains i.0) ≤ℤ last)) items
  pub best : All (λ p. best_room p.0 items boxes ≤ℤ p.1) row
  pub seated : (j : ℕ) → j < k → IsSeated row (cut domains ls) (slice_index_or items j (0, 0, 0))
  pub some : pos 0 ≤ℤ spare
  pub more : ((row_sum row +ℤ pos 1) +ℤ spare) ≤ℤ sizes_at m items (cut domains ls) boxes

-- the same of all items' bins and of the sizes of the first m items, for some row
pub record AreWeighed (items : List (ℕ × ℕ × ℕ)) (domains boxes : Boxes) (m : ℕ) (spare : ℤ) (ls : Literals) : Type 0 where
  pub row : List (ℤ × ℤ)
  pub totalled : AreTotalled items domains boxes (length items) m row spare ls

-- n values from the first on, none below 0, hold all that the bins have in their domains
pub record IsWindow (first : ℤ) (n : ℕ) (items : List (ℕ × ℕ × ℕ)) (domains : Boxes) : Type 0 where
  pub low : pos 0 ≤ℤ first
  pub high : first ≤ℤ pos last_bin
  pub few : n ≤ last_bin + 1
  pub covers : All (λ i. (first ≤ℤ low_of (box_of domains i.0))
      × (high_of (box_of domains i.0) <ℤ (first +ℤ pos n))) items
