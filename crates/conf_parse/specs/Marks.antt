-- Which bytes, alone or two together, spell a mark, or a keyword by marks.
use Rattle.std.specs.Prelude.{ℕ, Bool, ◌||◌, ◌&&◌, ◌==◌}

-- `..`, `->`, `==`, `!=`, `<=`, `>=`, `&&` and `||`
abbrev pub is_pair : ℕ → ℕ → Bool
is_pair first second =
    first == 46 && second == 46 || first == 45 && second == 62 || first == 61 && second == 61
    || first == 33 && second == 61 || first == 60 && second == 61 || first == 62 && second == 61
    || first == 38 && second == 38 || first == 124 && second == 124

-- `{ } [ ] ( ) ; , . = < > + - * !`
abbrev pub is_single : ℕ → Bool
is_single byte =
    byte == 123 || byte == 125 || byte == 91 || byte == 93 || byte == 40 || byte == 41 || byte == 59
    || byte == 44 || byte == 46 || byte == 61 || byte == 60 || byte == 62 || byte == 43
    || byte == 45 || byte == 42 || byte == 33
