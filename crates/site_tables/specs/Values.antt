-- What stands in a column.
use Rattle.std.specs.Prelude.{ℕ, List, [], ◌∷◌, ◌++◌, if◌then◌else◌, length, max}
use Rattle.std.specs.List.{list_any}
use Rattle.site_names.specs.Meeting.{same_word}
use Rattle.site_tables.specs.Grid.{GridRow, text_at}

-- a text behind others, where it is none of them
abbrev pub with_value : List (List ℕ) → List ℕ → List (List ℕ)
with_value seen t = if list_any (same_word t) seen then seen else seen ++ t ∷ []

-- the texts of a column, behind those that were seen, each once
abbrev pub values_at : ℕ → List (List ℕ) → List GridRow → List (List ℕ)
values_at column seen [] = seen
values_at column seen (r ∷ rs) = values_at column (with_value seen (text_at column r)) rs

-- the length of the longest text of a column, or of one that was seen
abbrev pub longest_at : ℕ → ℕ → List GridRow → ℕ
longest_at column most [] = most
longest_at column most (r ∷ rs) = longest_at column (max most (length (text_at column r))) rs
