-- Rows of loads. What a reader believes after this file: what is in a bin adds up to, and
-- when a row holds.
use Rattle.std.specs.Prelude.{ℕ, Bool, cond, List, [], ◌∷◌, ℤ, pos, ◌+ℤ◌, int_le}
use Rattle.std.specs.List.{list_all}
use Rattle.std.specs.Ordering.{int_eq}
use Rattle.ground_form.specs.Meaning.{value_of}
use Rattle.packed_rows.specs.declared.row.Row.{Row}

-- the sizes of the variables whose value is the bin, added up
abbrev pub load_of : ℤ → List (ℕ × ℤ) → List ℤ → ℤ
load_of bin [] a = pos 0
load_of bin (l ∷ ls) a =
    cond (int_eq (value_of a l.0) bin) (l.1 +ℤ load_of bin ls a) (load_of bin ls a)

-- the load of its bin is at most its room
abbrev pub row_holds : List ℤ → Row → Bool
row_holds a r = int_le (load_of r.bin r.loads.items a) r.room

abbrev pub rows_hold : List Row → List ℤ → Bool
rows_hold rows a = list_all (row_holds a) rows
