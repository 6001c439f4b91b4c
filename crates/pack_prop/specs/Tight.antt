-- When a tight packing has nothing to say of all its room. What a reader believes after this file:
-- where there is room for all least sizes, and still is where any one size grows, any one bin is
-- fixed, or any one room shrinks, no value of a box takes too much of it.
use Rattle.std.specs.Prelude.{ℕ, ◌≡◌, ◌<◌, ◌≤ℤ◌, ◌<ℤ◌, Bool, true, not, ◌&&◌, ◌||◌, cond, List, [], ◌∷◌, ℤ, pos, ◌+ℤ◌, ◌-ℤ◌, int_le, length, slice_index_or}
use Rattle.std.specs.Int.{int_max}
use Rattle.std.specs.List.{All}
use Rattle.signed_clause.specs.Ranges.{has}
use Rattle.signed_clause.specs.Clauses.{Boxes, box_of}
use Rattle.ground_form.specs.Bounds.{low_of, high_of}
use Rattle.box_rules.specs.Refuted.{least_sizes}
use Rattle.rule_law.specs.Repeats.{is_one}
use Rattle.pack_prop.specs.declared.best_rooms.ValueRooms.{ValueRooms}
use Rattle.pack_fit.specs.Packing.{put, two_rooms}

-- ---- the rooms of the values

pub record AreValueRooms (v : ℤ) (b : ValueRooms) (items : List (ℕ × ℕ × ℕ)) (boxes : Boxes) : Type 0 where
  pub value_is : b.at.value ≡ v
  pub first_is : b.first.value ≡ (two_rooms v items boxes).0
  pub second_is : b.second.value ≡ (two_rooms v items boxes).1

-- those of the values from v on
abbrev pub AreBestRooms : ℤ → List ValueRooms → List (ℕ × ℕ × ℕ) → Boxes → Type 0
AreBestRooms v [] items boxes = Unit {0}
AreBestRooms v (b ∷ bs) items boxes =
    AreValueRooms v b items boxes × AreBestRooms (v +ℤ pos 1) bs items boxes

-- the same, entry by entry
abbrev pub HaveBestRooms : List ValueRooms → ℤ → List (ℕ × ℕ × ℕ) → Boxes → Type 0
HaveBestRooms rows v items boxes =
    (d : ValueRooms) (e : ℕ) → e < length rows →
    AreValueRooms (v +ℤ pos e) (slice_index_or rows e d) items boxes

-- the second is the first with one more room, if there is one
pub record IsRaised (there : Bool) (room : ℤ) (stays : Bool) (b c : ValueRooms) : Type 0 where
  pub at : c.at.value ≡ b.at.value
  pub rooms : (c.first.value, c.second.value)
      ≡ cond there (put room stays (b.first.value, b.second.value)) (b.first.value, b.second.value)

-- the greatest rooms, added up
abbrev pub firsts : List ValueRooms → ℤ
firsts [] = pos 0
firsts (b ∷ bs) = b.first.value +ℤ firsts bs

-- the second greatest rooms, added up
abbrev pub seconds : List ValueRooms → ℤ
seconds [] = pos 0
seconds (b ∷ bs) = b.second.value +ℤ seconds bs

-- ---- what is left where one box is narrowed

-- of the greatest room, where that of item i counts as `room` only, or not at all where that is 0
abbrev pub left_at : ValueRooms → ℤ → ℕ × ℕ × ℕ → Boxes → ℤ
left_at b room i boxes =
    cond (has (box_of boxes i.0) b.at.value && int_le b.first.value (high_of (box_of boxes i.2)))
    (int_max b.second.value room) b.first.value

-- that, added up
abbrev pub lefts : List ValueRooms → ℤ → ℕ × ℕ × ℕ → Boxes → ℤ
lefts [] room i boxes = pos 0
lefts (b ∷ bs) room i boxes = left_at b room i boxes +ℤ lefts bs room i boxes

-- ---- whether there is room for the need

-- of which there is `all`, where the size of the item is any
abbrev pub may_grow : ℤ → ℤ → ℕ × ℕ × ℕ → Boxes → Bool
may_grow need all i boxes =
    int_le (need +ℤ (high_of (box_of boxes i.1) -ℤ low_of (box_of boxes i.1))) all

-- where any one size of the list is any
abbrev pub all_grow : ℤ → ℤ → List (ℕ × ℕ × ℕ) → Boxes → Bool
all_grow need all [] boxes = true
all_grow need all (i ∷ is) boxes = may_grow need all i boxes && all_grow need all is boxes

-- where the bin of the item is that of b, if it may be, and `sum` is left without the item
abbrev pub may_be_at : ℤ → ℤ → ValueRooms → ℕ × ℕ × ℕ → Boxes → Bool
may_be_at need sum b i boxes =
    not (has (box_of boxes i.0) b.at.value)
    || int_le need (sum +ℤ (b.first.value -ℤ left_at b (pos 0) i boxes))

-- where it is that of any of the list
abbrev pub may_be_in : ℤ → ℤ → List ValueRooms → ℕ × ℕ × ℕ → Boxes → Bool
may_be_in need sum [] i boxes = true
may_be_in need sum (b ∷ bs) i boxes = may_be_at need sum b i boxes && may_be_in need sum bs i boxes

-- where its bin, if it is open, is any
abbrev pub may_move : ℤ → List ValueRooms → ℕ × ℕ × ℕ → Boxes → Bool
may_move need best_rooms i boxes =
    is_one (box_of boxes i.0) || (int_le need (lefts best_rooms (pos 0) i boxes)
    || may_be_in need (lefts best_rooms (pos 0) i boxes) best_rooms i boxes)

-- where its room, if it is open, is any
abbrev pub may_shrink : ℤ → List ValueRooms → ℕ × ℕ × ℕ → Boxes → Bool
may_shrink need best_rooms i boxes =
    is_one (box_of boxes i.2) || int_le need (lefts best_rooms (low_of (box_of boxes i.2)) i boxes)

-- where any one bin or room of the list is any
abbrev pub all_loose : ℤ → List ValueRooms → List (ℕ × ℕ × ℕ) → Boxes → Bool
all_loose need best_rooms [] boxes = true
all_loose need best_rooms (i ∷ is) boxes =
    may_move need best_rooms i boxes && (may_shrink need best_rooms i boxes
    && all_loose need best_rooms is boxes)

-- the bin's box lies from v to below `end`
pub record IsBetween (v end : ℤ) (i : ℕ × ℕ × ℕ) (boxes : Boxes) : Type 0 where
  pub low : v ≤ℤ low_of (box_of boxes i.0)
  pub high : high_of (box_of boxes i.0) <ℤ end

-- all that the code tests
pub record HasEach (items : List (ℕ × ℕ × ℕ)) (boxes : Boxes) : Type 0 where
  pub start : ℤ
  pub rows : List ValueRooms
  pub rooms : AreBestRooms start rows items boxes
  pub places : All (λ i. IsBetween start (start +ℤ pos (length rows)) i boxes) items
  pub enough : least_sizes items boxes ≤ℤ firsts rows
  pub grow : all_grow (least_sizes items boxes) (firsts rows) items boxes ≡ true
  pub loose : all_loose (least_sizes items boxes) rows items boxes ≡ true
