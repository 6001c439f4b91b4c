-- How a picture is drawn: boxes with words in them from left to right, and on the next line where
-- there is no room. Numbers of points stay at the greatest of 64 bits.
use Rattle.std.specs.Prelude.{ℕ, Bool, true, false, not, ◌&&◌, if◌then◌else◌, nat_lt, List, [], ◌∷◌, ◌++◌, ◌+◌, ◌-◌, ◌*◌, ◌^◌, min, max, codes, length}
use Rattle.view_drawing.specs.Names.{fill_of, is_over, load_text, name_text}
use Rattle.view_drawing.specs.Shapes.{Area, box_text, words_text}
use Rattle.view_picture.specs.Picture.{PictureLoad}

-- what is drawn, where the next box may begin, and how far to the right something stands
pub record Sketch : Type 0 where
  pub body : List ℕ
  pub x : ℕ
  pub y : ℕ
  pub right : ℕ

abbrev pub plus : ℕ → ℕ → ℕ
plus m n = min (m + n) (2 ^ 64 - 1)

-- words take 8 points a letter
abbrev pub width_of : List ℕ → ℕ
width_of words = min (length words * 8) (2 ^ 64 - 1)

-- at the left of the next line
abbrev pub next_line : Sketch → Sketch
next_line s = record { body = s.body; x = 24; y = plus s.y 24; right = s.right }

-- on this line, where a box of this width ends within 988 points or is the first
abbrev pub with_room : ℕ → Sketch → Sketch
with_room width s = if nat_lt 24 s.x && nat_lt 988 (plus s.x width) then next_line s else s

-- a box in two colours with words in it
abbrev pub box_here : List ℕ → List ℕ → List ℕ → ℕ → Sketch → Sketch
box_here fill stroke words width s = record {
  body =
      s.body
      ++ box_text (record { x = s.x; y = s.y; width = width; height = 18 }) fill stroke
      ++ words_text (plus s.x 6) (plus s.y 13) (codes "#111827") words;
  x = plus (plus s.x width) 6;
  y = s.y;
  right = max s.right (plus s.x width);
}

abbrev pub with_box : List ℕ → List ℕ → List ℕ → Sketch → Sketch
with_box fill stroke words s =
    let width = plus (width_of words) 12 in
    box_here fill stroke words width (with_room width s)

-- words alone, at some place of this line
abbrev pub with_words : ℕ → List ℕ → List ℕ → Sketch → Sketch
with_words x fill words s = record {
  body = s.body ++ words_text x (plus s.y 13) fill words;
  x = s.x;
  y = s.y;
  right = max s.right (plus x (width_of words));
}

-- a bar of 200 points, of which a part is filled
abbrev pub with_bar : ℕ → List ℕ → Sketch → Sketch
with_bar hundredths fill s = record {
  body =
      s.body
      ++ box_text (record { x = 24; y = s.y; width = 200; height = 16 }) (codes "#f3f4f6") (codes "#9ca3af")
      ++ box_text (record { x = 24; y = s.y; width = 2 * hundredths; height = 16 }) fill (codes "none");
  x = s.x;
  y = s.y;
  right = s.right;
}

abbrev pub load_colour : PictureLoad → List ℕ
load_colour l = if is_over l then codes "#dc2626" else codes "#60a5fa"

-- the line of a load
abbrev pub with_load : PictureLoad → Sketch → Sketch
with_load l s =
    next_line (with_words 236 (codes "#111827") (load_text l) (with_bar (fill_of l) (load_colour l) s))
