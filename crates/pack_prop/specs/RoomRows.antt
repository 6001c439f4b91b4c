-- Best rooms value by value. What a reader believes after this file: a row holds a room for each of
-- some values that follow one another.
use Rattle.std.specs.Prelude.{◌≡◌, ◌<◌, ℕ, zero, suc, Bool, false, ◌&&◌, ◌||◌, cond, List, [], ◌∷◌, ℤ, pos, ◌+ℤ◌, int_lt, length, slice_index_or}
use Rattle.std.specs.Int.{int_max}
use Rattle.std.specs.Ordering.{int_eq}
use Rattle.signed_clause.specs.Ranges.{Ranges, has}
use Rattle.signed_clause.specs.Clauses.{Boxes}
use Rattle.box_rules.specs.Refuted.{best_room}

-- values and rooms: n values from v on, each with the best room there
abbrev pub best_rooms : ℕ → ℤ → List (ℕ × ℕ × ℕ) → Boxes → List (ℤ × ℤ)
best_rooms zero v items boxes = []
best_rooms (suc n) v items boxes =
    (v, best_room v items boxes) ∷ best_rooms n (v +ℤ pos 1) items boxes

-- those of the values from v on, entry by entry
abbrev pub HasRooms : List (ℤ × ℤ) → ℤ → List (ℕ × ℕ × ℕ) → Boxes → Type 0
HasRooms row v items boxes =
    (e : ℕ) → e < length row → slice_index_or row e (pos 0, pos 0)
    ≡ (v +ℤ pos e, best_room (v +ℤ pos e) items boxes)

-- the entry with a room of at least h, if an item with that room may be there
abbrev pub lifted : Bool → ℤ → ℤ × ℤ → ℤ × ℤ
lifted there h p = (p.0, cond there (int_max h p.1) p.1)

-- the values are those from first to last
abbrev pub IsRow : ℤ → ℤ → List (ℤ × ℤ) → Type 0
IsRow first last [] = first ≡ last +ℤ pos 1
IsRow first last (p ∷ ps) = (p.0 ≡ first) × IsRow (first +ℤ pos 1) last ps

-- the rooms, added up
abbrev pub row_sum : List (ℤ × ℤ) → ℤ
row_sum [] = pos 0
row_sum (p ∷ ps) = p.1 +ℤ row_sum ps

-- at each value of the set a room of at least h
abbrev pub raised : Ranges → ℤ → List (ℤ × ℤ) → List (ℤ × ℤ)
raised s h [] = []
raised s h (p ∷ ps) = (p.0, cond (has s p.0) (int_max h p.1) p.1) ∷ raised s h ps

-- v is a value whose room is less than h
abbrev pub is_short : ℤ → ℤ → List (ℤ × ℤ) → Bool
is_short v h [] = false
is_short v h (p ∷ ps) = (int_eq p.0 v && int_lt p.1 h) || is_short v h ps
