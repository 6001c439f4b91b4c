-- What is counted of items to be packed, bin by bin. What a reader believes after this file: a few
-- numbers of each bin tell whether all items fit there, and what its second greatest room is at
-- least.
use Rattle.std.specs.Prelude.{ℕ, suc, ◌≡◌, ◌<◌, ◌+◌, ◌==◌, ◌≤ℤ◌, Bool, true, false, ◌&&◌, ◌||◌, cond, List, [], ◌∷◌, Option, Some, None, ℤ, pos, ◌+ℤ◌, ◌-ℤ◌, int_le, int_lt, nat_le, length, slice_index_or}
use Rattle.std.specs.Int.{int_max, int_min}
use Rattle.std.specs.Ordering.{int_eq}
use Rattle.signed_clause.specs.Ranges.{Ranges, has}
use Rattle.signed_clause.specs.Clauses.{Boxes, box_of}
use Rattle.ground_form.specs.Bounds.{low_of, high_of}
use Rattle.box_rules.specs.Refuted.{fixed_at, fixed_load}
use Rattle.rule_law.specs.Repeats.{is_one}
use Rattle.pack_fit.specs.declared.survey.BinCounts.{BinCounts}
use Rattle.pack_fit.specs.Packing.{tight_room}

-- ---- the items whose bin is fixed at v

-- the least of their least rooms
abbrev pub least_room : ℤ → List (ℕ × ℕ × ℕ) → Boxes → ℤ
least_room v [] boxes = pos 9223372036854775807
least_room v (i ∷ is) boxes =
    cond (fixed_at (box_of boxes i.0) v) (int_min (low_of (box_of boxes i.2))
    (least_room v is boxes)) (least_room v is boxes)

-- the greatest that one of their sizes can grow
abbrev pub growth_at : ℤ → List (ℕ × ℕ × ℕ) → Boxes → ℤ
growth_at v [] boxes = pos 0
growth_at v (i ∷ is) boxes =
    cond (fixed_at (box_of boxes i.0) v)
    (int_max (high_of (box_of boxes i.1) -ℤ low_of (box_of boxes i.1)) (growth_at v is boxes))
    (growth_at v is boxes)

-- how many they are
abbrev pub fixed_count : ℤ → List (ℕ × ℕ × ℕ) → Boxes → ℕ
fixed_count v [] boxes = 0
fixed_count v (i ∷ is) boxes =
    cond (fixed_at (box_of boxes i.0) v) (suc (fixed_count v is boxes)) (fixed_count v is boxes)

-- one of them has a single room
abbrev pub some_frozen : ℤ → List (ℕ × ℕ × ℕ) → Boxes → Bool
some_frozen v [] boxes = false
some_frozen v (i ∷ is) boxes =
    cond (fixed_at (box_of boxes i.0) v) (some_frozen v is boxes || is_one (box_of boxes i.2))
    (some_frozen v is boxes)

-- all that is counted of them
pub record IsCounted (s : BinCounts) (v : ℤ) (items : List (ℕ × ℕ × ℕ)) (boxes : Boxes) : Type 0 where
  pub load : s.load.value ≡ fixed_load v items boxes
  pub tight : s.tight.value ≡ tight_room v items boxes
  pub room : s.room.value ≡ least_room v items boxes
  pub growth : s.growth.value ≡ growth_at v items boxes
  pub count : s.count ≡ fixed_count v items boxes
  pub frozen : s.frozen ≡ some_frozen v items boxes

-- ---- the items that may be at v

-- how many they are
abbrev pub hits : ℤ → List (ℕ × ℕ × ℕ) → Boxes → ℕ
hits v [] boxes = 0
hits v (i ∷ is) boxes = cond (has (box_of boxes i.0) v) (suc (hits v is boxes)) (hits v is boxes)

-- how many of the ranges begin at v, end at v, and hold v and the number before it
abbrev pub begun_at : ℤ → Ranges → ℕ
begun_at v [] = 0
begun_at v (r ∷ rs) = cond (int_eq r.0 v) (suc (begun_at v rs)) (begun_at v rs)

abbrev pub ended_at : ℤ → Ranges → ℕ
ended_at v [] = 0
ended_at v (r ∷ rs) = cond (int_eq r.1 v) (suc (ended_at v rs)) (ended_at v rs)

abbrev pub gone_on : ℤ → Ranges → ℕ
gone_on v [] = 0
gone_on v (r ∷ rs) = cond (int_lt r.0 v && int_le v r.1) (suc (gone_on v rs)) (gone_on v rs)

-- and how many of all ranges of the items' bins do
abbrev pub all_begun : ℤ → List (ℕ × ℕ × ℕ) → Boxes → ℕ
all_begun v [] boxes = 0
all_begun v (i ∷ is) boxes = begun_at v (box_of boxes i.0) + all_begun v is boxes

abbrev pub all_ended : ℤ → List (ℕ × ℕ × ℕ) → Boxes → ℕ
all_ended v [] boxes = 0
all_ended v (i ∷ is) boxes = ended_at v (box_of boxes i.0) + all_ended v is boxes

abbrev pub all_gone_on : ℤ → List (ℕ × ℕ × ℕ) → Boxes → ℕ
all_gone_on v [] boxes = 0
all_gone_on v (i ∷ is) boxes = gone_on v (box_of boxes i.0) + all_gone_on v is boxes

-- ---- n bins from v on

abbrev pub AreCounted : List BinCounts → ℤ → List (ℕ × ℕ × ℕ) → Boxes → Type 0
AreCounted bins v items boxes =
    (d : BinCounts) (e : ℕ) → e < length bins →
    IsCounted (slice_index_or bins e d) (v +ℤ pos e) items boxes

abbrev pub AreBegun : List ℕ → ℤ → List (ℕ × ℕ × ℕ) → Boxes → Type 0
AreBegun counts v items boxes =
    (e : ℕ) → e < length counts → slice_index_or counts e 0 ≡ all_begun (v +ℤ pos e) items boxes

abbrev pub AreEnded : List ℕ → ℤ → List (ℕ × ℕ × ℕ) → Boxes → Type 0
AreEnded counts v items boxes =
    (e : ℕ) → e < length counts → slice_index_or counts e 0 ≡ all_ended (v +ℤ pos e) items boxes

-- the slot of a bin, where it has one, is e
abbrev pub is_slot : Option ℕ → ℕ → Bool
is_slot None e = false
is_slot (Some d) e = d == e

-- ---- the items whose bin is open

-- the greatest of their least sizes, at least 0
abbrev pub open_size : List (ℕ × ℕ × ℕ) → Boxes → ℤ
open_size [] boxes = pos 0
open_size (i ∷ is) boxes =
    cond (is_one (box_of boxes i.0)) (open_size is boxes) (int_max (low_of (box_of boxes i.1))
    (open_size is boxes))

-- the least of their greatest rooms
abbrev pub open_floor : List (ℕ × ℕ × ℕ) → Boxes → ℤ
open_floor [] boxes = pos 9223372036854775807
open_floor (i ∷ is) boxes =
    cond (is_one (box_of boxes i.0)) (open_floor is boxes) (int_min (high_of (box_of boxes i.2))
    (open_floor is boxes))

-- ---- what the numbers of a bin show

-- the load leaves room for whatever the items that are fixed at the bin grow by, and, where others
-- may be there, for the greatest size that one of them has at least
pub record IsSettled (s : BinCounts) (is_open : Bool) (size floor : ℤ) : Type 0 where
  pub grown : (s.load.value +ℤ s.growth.value) ≤ℤ s.tight.value
  pub least : s.load.value ≤ℤ s.room.value
  pub tight : is_open ≡ true → (s.load.value +ℤ size) ≤ℤ s.tight.value
  pub most : is_open ≡ true → (s.load.value +ℤ size) ≤ℤ floor

-- the room, at least 0, where it counts, and 0 where it doesn't
abbrev pub room_where : Bool → ℤ → ℤ
room_where counts room = cond counts (int_max (pos 0) room) (pos 0)

-- what the second greatest room is at least, where so many others may be there beside the items
-- that are fixed, each with a room of floor at least: two others may be there; two are fixed, or
-- one that counts twice; one may be there beside one that is fixed
abbrev pub least_second : BinCounts → ℕ → ℤ → ℤ
least_second s others floor =
    int_max (room_where (nat_le 2 others) floor)
    (int_max (room_where (s.frozen || nat_le 2 s.count) s.tight.value)
    (room_where (nat_le 1 others && nat_le 1 s.count) (int_min floor s.tight.value)))
