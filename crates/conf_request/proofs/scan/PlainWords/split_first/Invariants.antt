use Rattle.std.proofs.Common.{◌≡◌, map, length, string_bytes}
use Rattle.conf_request.specs.Words.{plain_words}
use Rattle.conf_request.specs.Views.{plain}
use Rattle.conf_request.proofs.scan.PlainWords.split_first.Given as goal

-- no plain word was passed over
abbrev pub invariant-loop-rest : goal.invariant-loop-rest
invariant-loop-rest l = plain_words l.expected (map string_bytes l.rest) ≡ plain l.fn.self

abbrev pub decreases-loop-rest : goal.decreases-loop-rest
decreases-loop-rest l = length l.rest
