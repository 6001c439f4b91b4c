use Rattle.std.proofs.Common.{◌≡◌, drop}
use Rattle.std.specs.List.{list_all}
use Rattle.std.specs.Char.{is_ascii_digit}
use Rattle.conf_request.proofs.numbers.are_digits.Given as goal

-- the bytes so far are digits
abbrev pub invariant-loop-b : goal.invariant-loop-b
invariant-loop-b l =
    list_all is_ascii_digit (drop l.b-index l.word) ≡ list_all is_ascii_digit l.fn.word
