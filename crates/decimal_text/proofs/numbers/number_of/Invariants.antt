use Rattle.std.proofs.Common.{◌≡◌, ◌<◌, ◌^◌, drop}
use Rattle.std.specs.Str.{all_ascii_digits}
use Rattle.decimal_text.proofs.Digits.{read_on}
use Rattle.decimal_text.proofs.numbers.number_of.Given as goal

abbrev pub invariant-loop-b : goal.invariant-loop-b
invariant-loop-b l = record {
  fits : l.n < 2 ^ 64;
  value : read_on l.n (drop l.b-index l.text) ≡ read_on 0 l.text;
  digits : all_ascii_digits (drop l.b-index l.text) ≡ all_ascii_digits l.text;
}
