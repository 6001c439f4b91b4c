-- What stands in a cell.
use Rattle.std.specs.Prelude.{ℕ, Bool, not, ◌&&◌, ◌==◌, nat_le, List, length}
use Rattle.std.specs.List.{list_all}
use Rattle.std.specs.Char.{is_ascii_digit}

-- no control byte
abbrev pub is_plain : ℕ → Bool
is_plain b = nat_le 32 b && not (b == 127)

abbrev pub is_name : List ℕ → Bool
is_name t = not (length t == 0) && list_all is_plain t

-- a whole number of one to nine digits
abbrev pub is_amount : List ℕ → Bool
is_amount t = not (length t == 0) && nat_le (length t) 9 && list_all is_ascii_digit t
