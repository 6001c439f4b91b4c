-- The shapes of a drawing as SVG spells them.
use Rattle.std.specs.Prelude.{ℕ, Bool, true, false, not, ◌&&◌, ◌||◌, ◌==◌, if◌then◌else◌, List, [], ◌∷◌, ◌++◌, codes, decimal, nat_eq}
use Rattle.std.specs.List.{flat_map, starts_with}

-- ---- names

-- the four marks of XML stand as their entities
abbrev pub escaped_mark : ℕ → List ℕ
escaped_mark b =
    if b == 60 then codes "&lt;"
    else if b == 62 then codes "&gt;"
    else if b == 38 then codes "&amp;"
    else if b == 34 then codes "&quot;"
    else b ∷ []

abbrev pub escaped : List ℕ → List ℕ
escaped name = flat_map escaped_mark name

abbrev pub begins_entity : List ℕ → Bool
begins_entity bytes =
    starts_with nat_eq bytes (codes "lt;") || starts_with nat_eq bytes (codes "gt;")
    || starts_with nat_eq bytes (codes "amp;") || starts_with nat_eq bytes (codes "quot;")

-- whether text can stand in an element or an attribute: no `<`, `>` or `"`, and each `&` begins one
-- of the four entities
abbrev pub is_tame : List ℕ → Bool
is_tame [] = true
is_tame (b ∷ bytes) =
    if b == 38 then begins_entity bytes && is_tame bytes
    else not (b == 60) && not (b == 62) && not (b == 34) && is_tame bytes

-- ---- numbers of points

-- a number of points, as the value of an attribute whose name stands before
abbrev pub points_text : List ℕ → ℕ → List ℕ
points_text name n = name ++ decimal n ++ 34 ∷ []

-- where a rectangle lies
pub record Area : Type 0 where
  pub x : ℕ
  pub y : ℕ
  pub width : ℕ
  pub height : ℕ

unfoldable pub area_text : Area → List ℕ
area_text a =
    points_text (codes " x=\"") a.x ++ points_text (codes " y=\"") a.y
    ++ points_text (codes " width=\"") a.width ++ points_text (codes " height=\"") a.height

-- a colour, as the value of an attribute whose name stands before
unfoldable pub colour_text : List ℕ → List ℕ → List ℕ
colour_text name colour = name ++ colour ++ 34 ∷ []

-- a rectangle with its inner and its outer colour
abbrev pub box_text : Area → List ℕ → List ℕ → List ℕ
box_text a fill stroke =
    codes "<rect" ++ area_text a ++ colour_text (codes " rx=\"3\" fill=\"") fill
    ++ colour_text (codes " stroke=\"") stroke ++ codes "/>\n"

-- words that begin here, on a line
abbrev pub words_text : ℕ → ℕ → List ℕ → List ℕ → List ℕ
words_text x y fill words =
    codes "<text" ++ points_text (codes " x=\"") x ++ points_text (codes " y=\"") y
    ++ colour_text (codes " fill=\"") fill ++ 62 ∷ escaped words ++ codes "</text>\n"
