-- A picture as SVG: the classes with their colours, and below each holder its loads and its guests.
-- It has no script and names nothing that lies outside.
use Rattle.std.specs.Prelude.{ℕ, ◌+◌, Bool, true, false, List, [], ◌∷◌, ◌++◌, codes}
use Rattle.view_leaves.specs.Paths.{Path}
use Rattle.view_leaves.specs.Spelling.{path_text, word_text}
use Rattle.view_picture.specs.Picture.{PictureGuest, PictureLoad, PictureHolding}
use Rattle.view_drawing.specs.Canvas.{Sketch, plus, next_line, with_box, with_words, with_load}
use Rattle.view_drawing.specs.Classes.{classes_of, palette, colour_of}
use Rattle.view_drawing.specs.Names.{is_among, name_text}
use Rattle.view_drawing.specs.Shapes.{points_text}

-- the classes from an index on, each in a box of its colour
abbrev pub with_legend : ℕ → List (List ℕ) → Sketch → Sketch
with_legend n [] s = s
with_legend n (c ∷ cs) s =
    with_legend (n + 1) cs (with_box (palette n) (codes "#6b7280") (word_text c) s)

-- what failed has a red edge, and its words are red where it has no box
abbrev pub edge : Bool → List ℕ
edge true = codes "#dc2626"
edge false = codes "#6b7280"

abbrev pub ink : Bool → List ℕ
ink true = codes "#dc2626"
ink false = codes "#111827"

abbrev pub has_failed : List (List ℕ) → Path → Bool
has_failed failed p = is_among failed (path_text p)

abbrev pub with_guest : List (List ℕ) → List (List ℕ) → PictureGuest → Sketch → Sketch
with_guest failed classes g s =
    with_box (colour_of classes g.class) (edge (has_failed failed g.path)) (name_text failed g.path) s

abbrev pub with_guests : List (List ℕ) → List (List ℕ) → List PictureGuest → Sketch → Sketch
with_guests failed classes [] s = s
with_guests failed classes (g ∷ gs) s = with_guests failed classes gs (with_guest failed classes g s)

abbrev pub with_loads : List PictureLoad → Sketch → Sketch
with_loads [] s = s
with_loads (l ∷ ls) s = with_loads ls (with_load l s)

abbrev pub with_holder : List (List ℕ) → Path → Sketch → Sketch
with_holder failed p s =
    next_line (with_words 12 (ink (has_failed failed p)) (name_text failed p) s)

abbrev pub with_holding : List (List ℕ) → List (List ℕ) → PictureHolding → Sketch → Sketch
with_holding failed classes h s =
    next_line (with_guests failed classes h.guests (with_loads h.loads (with_holder failed h.holder s)))

abbrev pub with_holdings : List (List ℕ) → List (List ℕ) → List PictureHolding → Sketch → Sketch
with_holdings failed classes [] s = s
with_holdings failed classes (h ∷ hs) s =
    with_holdings failed classes hs (with_holding failed classes h s)

-- nothing, with room for 1,000 points from left to right
abbrev pub blank : Sketch
blank = record { body = []; x = 24; y = 12; right = 988 }

abbrev pub drawing : List (List ℕ) → List (List ℕ) → List PictureHolding → Sketch
drawing failed classes hs =
    with_holdings failed classes hs (next_line (with_legend 0 classes blank))

-- the letters, and what is below all
unfoldable pub style_text : List ℕ
style_text =
    codes " font-family=\"monospace\" font-size=\"13\">\n"
    ++ codes "<rect width=\"100%\" height=\"100%\" fill=\"#ffffff\"/>\n"

-- the document, as large as what is drawn
abbrev pub head_text : ℕ → ℕ → List ℕ
head_text width height =
    codes "<svg xmlns=\"http://www.w3.org/2000/svg\"" ++ points_text (codes " width=\"") width
    ++ points_text (codes " height=\"") height ++ style_text

abbrev pub document : Sketch → List ℕ
document s = head_text (plus s.right 12) (plus s.y 12) ++ s.body ++ codes "</svg>\n"

abbrev pub svg_text : List (List ℕ) → List PictureHolding → List ℕ
svg_text failed hs = document (drawing failed (classes_of hs) hs)
