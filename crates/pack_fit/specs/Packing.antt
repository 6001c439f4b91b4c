-- When items to be packed have nothing to say. What a reader believes after this file: where each
-- item fits wherever it may be put, and there is room enough whichever box is narrowed, the items
-- have slack.
use Rattle.std.specs.Prelude.{ℕ, zero, suc, ◌≡◌, ◌≤ℤ◌, Bool, true, not, ◌&&◌, ◌||◌, cond, List, [], ◌∷◌, ℤ, pos, ◌+ℤ◌, ◌-ℤ◌, int_le}
use Rattle.std.specs.Int.{int_max, int_min}
use Rattle.signed_clause.specs.Ranges.{has}
use Rattle.signed_clause.specs.Clauses.{Boxes, box_of}
use Rattle.ground_form.specs.Meaning.{item_vars}
use Rattle.ground_form.specs.Bounds.{low_of, high_of}
use Rattle.box_rules.specs.Refuted.{fixed_at, fixed_load, least_sizes}
use Rattle.rule_law.specs.Reasons.{no_repeat}
use Rattle.rule_law.specs.Repeats.{is_one, open_vars}

-- ---- variables that are open

-- the open variables of the items, in order
abbrev pub opens : List (ℕ × ℕ × ℕ) → Boxes → List ℕ
opens items boxes = open_vars (item_vars items) boxes

-- ---- one bin

-- the least of the greatest rooms of the items that are fixed at v
abbrev pub tight_room : ℤ → List (ℕ × ℕ × ℕ) → Boxes → ℤ
tight_room v [] boxes = pos 9223372036854775807
tight_room v (i ∷ is) boxes =
    cond (fixed_at (box_of boxes i.0) v) (int_min (high_of (box_of boxes i.2))
    (tight_room v is boxes)) (tight_room v is boxes)

-- the load of v leaves room for the greatest size of the item, where it is fixed there, and is at
-- most its least room; or leaves room for its least size, where it may be put there
abbrev pub fits : ℤ → ℤ → ℤ → ℕ × ℕ × ℕ → Boxes → Bool
fits v load tight i boxes =
    cond (fixed_at (box_of boxes i.0) v)
    (int_le load ((tight -ℤ high_of (box_of boxes i.1)) +ℤ low_of (box_of boxes i.1))
    && int_le load (low_of (box_of boxes i.2)))
    (not (has (box_of boxes i.0) v) || (int_le load (tight -ℤ low_of (box_of boxes i.1))
    && int_le load (high_of (box_of boxes i.2) -ℤ low_of (box_of boxes i.1))))

-- each item of the first list fits at v
abbrev pub all_fit : ℤ → List (ℕ × ℕ × ℕ) → List (ℕ × ℕ × ℕ) → Boxes → Bool
all_fit v [] items boxes = true
all_fit v (i ∷ is) items boxes =
    fits v (fixed_load v items boxes) (tight_room v items boxes) i boxes && all_fit v is items boxes

-- ---- all bins

-- the greatest room and the second greatest, of which an item whose bin and room are open to no
-- change counts twice
abbrev pub put : ℤ → Bool → ℤ × ℤ → ℤ × ℤ
put room frozen two = (int_max two.0 room, int_max two.1 (cond frozen room (int_min two.0 room)))

-- those of the items that may be at v, each at least 0
abbrev pub two_rooms : ℤ → List (ℕ × ℕ × ℕ) → Boxes → ℤ × ℤ
two_rooms v [] boxes = (pos 0, pos 0)
two_rooms v (i ∷ is) boxes =
    cond (has (box_of boxes i.0) v)
    (put (high_of (box_of boxes i.2)) (is_one (box_of boxes i.0) && is_one (box_of boxes i.2))
    (two_rooms v is boxes))
    (two_rooms v is boxes)

-- the second ones of n values from v on, added up: they stay, whichever box is narrowed
abbrev pub seconds_from : ℕ → ℤ → List (ℕ × ℕ × ℕ) → Boxes → ℤ
seconds_from zero v items boxes = pos 0
seconds_from (suc n) v items boxes =
    (two_rooms v items boxes).1 +ℤ seconds_from n (v +ℤ pos 1) items boxes

-- the greatest that a size can grow
abbrev pub growth : List (ℕ × ℕ × ℕ) → Boxes → ℤ
growth [] boxes = pos 0
growth (i ∷ is) boxes =
    int_max (high_of (box_of boxes i.1) -ℤ low_of (box_of boxes i.1)) (growth is boxes)

-- whichever box is narrowed, there is room for all sizes
abbrev pub HasEnough : List (ℕ × ℕ × ℕ) → Boxes → Type 0
HasEnough items boxes =
    (n : ℕ) × (v : ℤ) × ((least_sizes items boxes +ℤ growth items boxes) ≤ℤ seconds_from n v items
    boxes)

-- each item fits wherever it may be
abbrev pub AllFit : List (ℕ × ℕ × ℕ) → Boxes → Type 0
AllFit items boxes = (v : ℤ) → all_fit v items items boxes ≡ true

-- all that the code tests
pub record HaveSlack (items : List (ℕ × ℕ × ℕ)) (boxes : Boxes) : Type 0 where
  pub once : no_repeat (opens items boxes) ≡ true
  pub fit : AllFit items boxes
  pub enough : HasEnough items boxes
