use Rattle.std.proofs.Common.{◌≡◌, ◌+◌, take, min}
use Rattle.conf_syntax.specs.Spelling.{number_of}
use Rattle.conf_request.proofs.numbers.number_up_to.Given as goal

-- the value so far, or one more than the greatest
abbrev pub invariant-loop-digit : goal.invariant-loop-digit
invariant-loop-digit l = l.value ≡ min (number_of (take l.digit-index l.digits)) (l.fn.most + 1)
