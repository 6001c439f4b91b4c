use Rattle.std.proofs.Common.{length}
use Rattle.numbered_clauses.proofs.packed_number.+read_number.Given as goal

abbrev pub decreases-read_number : goal.decreases-read_number
decreases-read_number l = length l.text.now
