-- The line of a text on which a place stands, and what is shown of it.
use Rattle.std.specs.Prelude.{ℕ, zero, suc, ◌+◌, Bool, ◌&&◌, ◌||◌, if◌then◌else◌, List, [], ◌∷◌, codes, count_by, drop, nat_eq, nat_le, take}

-- the number of the line on which a place of a text stands
abbrev pub line_number : List ℕ → ℕ → ℕ
line_number text place = 1 + count_by (nat_eq 10) (take place text)

-- a line feed, or a carriage return
abbrev pub ends_line : ℕ → Bool
ends_line b = nat_eq b 10 || nat_eq b 13

-- a byte of printable ASCII stands as it is, a tab as a blank, and any other byte as a `?`
abbrev pub shown : ℕ → ℕ
shown b = if nat_eq b 9 then 32 else if nat_le 32 b && nat_le b 126 then b else 63

-- these bytes up to the end of their line, or so many of them and two dots
abbrev pub line_rest : ℕ → List ℕ → List ℕ
line_rest n [] = []
line_rest zero (b ∷ bs) = if ends_line b then [] else codes " .."
line_rest (suc n) (b ∷ bs) = if ends_line b then [] else shown b ∷ line_rest n bs

-- how many bytes of a line are shown
abbrev pub most_shown : ℕ
most_shown = 100

-- what stands on its line from a place on
abbrev pub source_text : List ℕ → ℕ → List ℕ
source_text text place = line_rest most_shown (drop place text)
