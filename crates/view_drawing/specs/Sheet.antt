-- A picture as lines of text: a line for each holder with its guests, a line for each of its loads,
-- and the number of holders.
use Rattle.std.specs.Prelude.{ℕ, ℤ, Bool, true, false, if◌then◌else◌, List, [], ◌∷◌, ◌++◌, ◌/◌, Option, None, Some, codes, decimal, drop, length, take}
use Rattle.std.specs.List.{flat_map}
use Rattle.view_picture.specs.Picture.{PictureGuest, PictureLoad, PictureHolding}
use Rattle.view_drawing.specs.Names.{name_text, fill_of, is_over, load_text}

-- of 20 marks, one for each 5 hundredths that are taken
abbrev pub bar_text : ℕ → List ℕ
bar_text n =
    codes " [" ++ take (n / 5) (codes "####################")
    ++ drop (n / 5) (codes "....................") ++ codes "]"

abbrev pub gauge_text : PictureLoad → List ℕ
gauge_text l = bar_text (fill_of l) ++ (if is_over l then codes " over" else [])

abbrev pub gauge_by : Option ℤ → PictureLoad → List ℕ
gauge_by None l = []
gauge_by (Some c) l = gauge_text l

-- a load, with a bar where there is a capacity
abbrev pub load_line : PictureLoad → List ℕ
load_line l = codes "  " ++ load_text l ++ gauge_by l.capacity l ++ codes "\n"

abbrev pub guests_text : List (List ℕ) → Bool → List PictureGuest → List ℕ
guests_text failed later [] = []
guests_text failed later (g ∷ gs) =
    (if later then codes ", " else []) ++ name_text failed g.path ++ guests_text failed true gs

abbrev pub holding_text : List (List ℕ) → PictureHolding → List ℕ
holding_text failed h =
    name_text failed h.holder ++ codes ": " ++ guests_text failed false h.guests ++ codes "\n"
    ++ flat_map load_line h.loads

abbrev pub sheet_text : List (List ℕ) → List PictureHolding → List ℕ
sheet_text failed hs =
    flat_map (holding_text failed) hs ++ decimal (length hs) ++ codes " holders\n"
