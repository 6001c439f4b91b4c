-- Boxes in levels, as decisions open them. What a reader believes after this file: which levels a
-- decision, a pruning and a clause make of those that stand.
use Rattle.std.specs.Prelude.{ℕ, cond, List, ◌∷◌, Option, Some, None, slice_set, []}
use Rattle.std.specs.Option.{option_map_or}
use Rattle.signed_clause.specs.Ranges.{Ranges}
use Rattle.signed_clause.specs.Clauses.{Boxes, Literals, box_of, false_in, unit_of}

-- what was done to a box: its variable, the box before, and the number of the clause that pruned
-- it, none for a decision
pub record Entry : Type 0 where
  pub var : ℕ
  pub before : Ranges
  pub from : Option ℕ

-- a level: the boxes that it began with, its present boxes, and what was done in it, the newest
-- entry first
pub record Level : Type 0 where
  pub first : Boxes
  pub now : Boxes
  pub entries : List Entry

-- the last level, and those below it, the nearest first
pub record Stack : Type 0 where
  pub top : Level
  pub below : List Level

abbrev pub level : Boxes → Boxes → List Entry → Level
level first now entries = record { first = first; now = now; entries = entries }

-- level 0 alone, with nothing done
abbrev pub bottom : Boxes → Stack
bottom boxes = record { top = level boxes boxes []; below = [] }

-- the boxes behind an entry: a decision opens a level, which begins with them, and a pruning stays
-- in the last level
abbrev pub with_entry : Option ℕ → Boxes → Entry → Stack → Stack
with_entry None boxes e s = record { top = level boxes boxes (e ∷ []); below = s.top ∷ s.below }
with_entry (Some j) boxes e s =
    record { top = level s.top.first boxes (e ∷ s.top.entries); below = s.below }

-- the variable gets another box, by a clause or by a decision
abbrev pub moved : Option ℕ → ℕ → Ranges → Stack → Stack
moved from x set s =
    with_entry from (slice_set s.top.now x set)
    (record { var = x; before = box_of s.top.now x; from = from }) s

-- the levels behind it, where n is the clause's number
abbrev pub pruned_by : ℕ → Option (ℕ × Ranges) → Stack → Stack
pruned_by n made s = option_map_or (λ u. moved (Some n) u.0 u.1 s) made s

abbrev pub reacted : ℕ → Literals → Stack → Stack
reacted n c s = cond (false_in s.top.now c) s (pruned_by n (unit_of s.top.now c) s)
