-- Rows and cells with their numbers, both counted from 0, and why a text has none.
use Rattle.std.specs.Prelude.{ℕ, ◌+◌, ◌==◌, if◌then◌else◌, List, [], ◌∷◌, ⊤, IsUtf8}
use Rattle.std.specs.List.{enumerate_from}
use Rattle.site_tables.specs.declared.reading.ReadError.{ReadError}
use Rattle.site_tables.specs.declared.reading.ReadError.TheVariants.{NotText, Memory}

-- the number of a column and what stands there
abbrev pub GridCell : Type 0
GridCell = ℕ × List ℕ

-- the number of a row and its cells
abbrev pub GridRow : Type 0
GridRow = ℕ × List GridCell

abbrev pub grid : ℕ → List (List (List ℕ)) → List GridRow
grid n [] = []
grid n (r ∷ rs) = (n, enumerate_from 0 r) ∷ grid (n + 1) rs

abbrev pub header : List GridRow → List GridCell
header [] = []
header (r ∷ rs) = r.1

abbrev pub behind : List GridRow → List GridRow
behind [] = []
behind (r ∷ rs) = rs

abbrev pub first_text : List GridCell → List ℕ
first_text [] = []
first_text (c ∷ cs) = c.1

abbrev pub name_of : GridRow → List ℕ
name_of r = first_text r.1

-- what stands in the cell of a column; nothing where there is none
abbrev pub text_in : ℕ → List GridCell → List ℕ
text_in column [] = []
text_in column (c ∷ cs) = if c.0 == column then c.1 else text_in column cs

abbrev pub text_at : ℕ → GridRow → List ℕ
text_at column r = text_in column r.1

-- why a text gave no records
abbrev pub IsUnread : List ℕ → ReadError → Type 0
IsUnread text NotText = ¬ IsUtf8 text
IsUnread text Memory = ⊤
