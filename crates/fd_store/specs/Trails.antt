-- A trail is the list of what was done to the boxes, with each box as it was before. What a reader
-- believes after this file: which levels a trail and the present boxes stand for, and what a store
-- keeps of them. All lists here have the newest entry first.
use Rattle.std.specs.Prelude.{◌≡◌, ℕ, ◌+◌, ◌<◌, true, List, [], ◌∷◌, Option, Some, None, length, slice_set}
use Rattle.std.specs.List.{All}
use Rattle.signed_clause.specs.Ranges.{Ranges, IsValid}
use Rattle.signed_clause.specs.SetAlgebra.{is_within}
use Rattle.signed_clause.specs.Clauses.{Boxes, box_of}
use Rattle.fd_store.specs.declared.trail.Moved.{Moved}
use Rattle.fd_store.specs.Levels.{Entry, Stack, bottom, with_entry}

abbrev pub entry_of : Moved → Entry
entry_of m = record { var = m.var; before = m.before; from = m.from }

abbrev pub entries_of : List Moved → List Entry
entries_of [] = []
entries_of (m ∷ ms) = entry_of m ∷ entries_of ms

-- the levels of a trail, with the boxes behind it
abbrev pub stack_of : Boxes → List Moved → Stack
stack_of boxes [] = bottom boxes
stack_of boxes (m ∷ ms) =
    with_entry m.from boxes (entry_of m) (stack_of (slice_set boxes m.var m.before) ms)

-- the level of the newest entry
abbrev pub level_of : List Moved → ℕ
level_of [] = 0
level_of (m ∷ ms) = m.level

-- the level of an entry that comes behind one of level k
abbrev pub level_after : Option ℕ → ℕ → ℕ
level_after None k = k + 1
level_after (Some j) k = k

-- ---- what a store keeps

-- an entry, with the boxes behind it and the entries before it: its variable has a box, the box
-- before is a set, which the box behind lies within, and its level is right
pub record IsEntry (boxes : Boxes) (m : Moved) (ms : List Moved) : Type 0 where
  pub exists : m.var < length boxes
  pub valid : IsValid m.before
  pub narrows : is_within (box_of boxes m.var) m.before ≡ true
  pub level_is : m.level ≡ level_after m.from (level_of ms)

-- each entry is one, with the boxes behind it
abbrev pub IsTrail : Boxes → List Moved → Type 0
IsTrail boxes [] = Unit {0}
IsTrail boxes (m ∷ ms) = IsEntry boxes m ms × IsTrail (slice_set boxes m.var m.before) ms

-- boxes and trail of a store
pub record IsStore (boxes : Boxes) (ms : List Moved) : Type 0 where
  pub sets : All (λ s. IsValid s) boxes
  pub trail : IsTrail boxes ms

-- the set is one that the variable's box may be narrowed to
pub record IsNarrowing (boxes : Boxes) (x : ℕ) (set : Ranges) : Type 0 where
  pub exists : x < length boxes
  pub within : is_within set (box_of boxes x) ≡ true

-- ---- one entry less

-- the boxes before the newest entry, and the entries before it
abbrev pub undone : Boxes → List Moved → Boxes
undone boxes [] = boxes
undone boxes (m ∷ ms) = slice_set boxes m.var m.before

abbrev pub older : List Moved → List Moved
older [] = []
older (m ∷ ms) = ms

-- the newest entry is of x
pub record IsNewest (x : ℕ) (ms : List Moved) : Type 0 where
  pub entry : Moved
  pub earlier : List Moved
  pub is : ms ≡ entry ∷ earlier
  pub var : entry.var ≡ x
