-- The classes of guests, in the order in which they are met, and their colours.
use Rattle.std.specs.Prelude.{ℕ, zero, suc, Bool, ◌==◌, ◌&&◌, not, if◌then◌else◌, nat_lt, List, [], ◌∷◌, ◌++◌, Option, None, Some, codes, bytes_eq, length}
use Rattle.view_drawing.specs.Names.{is_among}
use Rattle.view_picture.specs.Picture.{PictureGuest, PictureHolding}

-- no more than 8 classes have a colour of their own
abbrev pub with_class : List (List ℕ) → Option (List ℕ) → List (List ℕ)
with_class cs None = cs
with_class cs (Some c) =
    if nat_lt (length cs) 8 && not (is_among cs c) then cs ++ c ∷ [] else cs

abbrev pub with_guests : List (List ℕ) → List PictureGuest → List (List ℕ)
with_guests cs [] = cs
with_guests cs (g ∷ gs) = with_guests (with_class cs g.class) gs

abbrev pub with_holdings : List (List ℕ) → List PictureHolding → List (List ℕ)
with_holdings cs [] = cs
with_holdings cs (h ∷ hs) = with_holdings (with_guests cs h.guests) hs

-- the index of a class, or their number where it is none of them
abbrev pub class_index : List (List ℕ) → List ℕ → ℕ
class_index [] c = 0
class_index (d ∷ ds) c = if bytes_eq d c then 0 else suc (class_index ds c)

-- the colour of the class of an index, and that of all others
abbrev pub palette : ℕ → List ℕ
palette n =
    if n == 0 then codes "#bfdbfe"
    else if n == 1 then codes "#bbf7d0"
    else if n == 2 then codes "#fde68a"
    else if n == 3 then codes "#fbcfe8"
    else if n == 4 then codes "#ddd6fe"
    else if n == 5 then codes "#a5f3fc"
    else if n == 6 then codes "#fed7aa"
    else if n == 7 then codes "#d9f99d"
    else codes "#e5e7eb"

abbrev pub colour_of : List (List ℕ) → Option (List ℕ) → List ℕ
colour_of cs None = codes "#e5e7eb"
colour_of cs (Some c) = palette (class_index cs c)

abbrev pub classes_of : List PictureHolding → List (List ℕ)
classes_of hs = with_holdings [] hs
