-- How the lines of a text are read, byte after byte.
use Rattle.std.specs.Prelude.{ℕ, ◌≡◌, ◌+◌, ◌-◌, List, ◌++◌, Option, drop, map, take}
use Rattle.view_page.specs.Entries.{PageEntry, lines_from, entry_of}

-- the lines from a place on, of which the first began at an earlier one
abbrev pub lines_left : List ℕ → ℕ → ℕ → List (List ℕ)
lines_left text start i = lines_from (take (i - start) (drop start text)) (drop i text)

-- what was read with what is left, one byte further
pub record HasTurned (text : List ℕ) (old new : List (Option PageEntry)) (start next i : ℕ) : Type 0 where
  pub same : new ++ map entry_of (lines_left text next (i + 1)) ≡ old ++ map entry_of (lines_left text start i)
