use Rattle.std.proofs.Common.{◌≡◌, map, string_bytes, length}
use Rattle.conf_request.specs.Words.{nothing, scan}
use Rattle.conf_request.specs.declared.scan.Expected.TheVariants as expected
use Rattle.conf_request.specs.Views.{given}
use Rattle.conf_request.proofs.scan.given_in.Given as goal

-- the words that are left, read behind those that were read, are read as all words
abbrev pub invariant-loop-scan : goal.invariant-loop-scan
invariant-loop-scan l =
    scan l.scan.expected (given l.scan.values) (map string_bytes l.scan.rest.now)
    ≡ scan expected.Any nothing (map string_bytes l.fn.words)

abbrev pub decreases-loop-scan : goal.decreases-loop-scan
decreases-loop-scan l = length l.scan.rest.now
