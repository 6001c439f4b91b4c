-- Names in a picture: paths, with a mark on those that failed, and what guests come to.
use Rattle.std.specs.Prelude.{ℕ, ℤ, pos, Bool, true, false, not, if◌then◌else◌, List, [], ◌∷◌, ◌++◌, Option, None, Some, codes, bytes_eq, int_lt, ◌*◌, ◌/◌, unsigned_abs}
use Rattle.std.specs.Fmt.{signed_decimal}
use Rattle.std.specs.List.{list_any}
use Rattle.view_leaves.specs.Paths.{Path}
use Rattle.view_leaves.specs.Spelling.{path_text, word_text}
use Rattle.view_picture.specs.Picture.{PictureLoad}

abbrev pub is_among : List (List ℕ) → List ℕ → Bool
is_among failed name = list_any (λ w. bytes_eq w name) failed

abbrev pub mark_text : Bool → List ℕ
mark_text true = codes " (failed)"
mark_text false = []

-- a path, with its mark
abbrev pub name_text : List (List ℕ) → Path → List ℕ
name_text failed p = path_text p ++ mark_text (is_among failed (path_text p))

-- how much of a capacity is taken, in hundredths
abbrev pub filled : ℤ → ℤ → ℕ
filled sum capacity =
    if not (int_lt (pos 0) sum) then 0
    else if not (int_lt sum capacity) then 100
    else unsigned_abs sum * 100 / unsigned_abs capacity

abbrev pub fill_by : Option ℤ → ℤ → ℕ
fill_by None sum = 0
fill_by (Some capacity) sum = filled sum capacity

abbrev pub fill_of : PictureLoad → ℕ
fill_of l = fill_by l.capacity l.sum

-- whether it is more than the holder can take
abbrev pub over_by : Option ℤ → ℤ → Bool
over_by None sum = false
over_by (Some capacity) sum = int_lt capacity sum

abbrev pub is_over : PictureLoad → Bool
is_over l = over_by l.capacity l.sum

abbrev pub capacity_text : Option ℤ → List ℕ
capacity_text None = []
capacity_text (Some capacity) = codes " of " ++ signed_decimal capacity

-- a load: `cpu 6 of 8`
abbrev pub load_text : PictureLoad → List ℕ
load_text l = word_text l.name ++ 32 ∷ signed_decimal l.sum ++ capacity_text l.capacity
