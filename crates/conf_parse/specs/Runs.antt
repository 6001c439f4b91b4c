-- Which bytes a row of each kind has.
use Rattle.std.specs.Prelude.{ℕ, Bool}
use Rattle.std.specs.Char.{is_ascii_digit}
use Rattle.conf_syntax.specs.Spelling.{goes_on, in_line}
use Rattle.conf_parse.specs.declared.run.Run.{Run}
use Rattle.conf_parse.specs.declared.run.Run.TheVariants.{Word, Digits, Line}

abbrev pub goes_in : Run → ℕ → Bool
goes_in Word = goes_on
goes_in Digits = is_ascii_digit
goes_in Line = in_line
