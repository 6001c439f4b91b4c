use Rattle.std.proofs.Common.{pos, take}
use Rattle.stated_rows.specs.Following.{IsBelow}
use Rattle.stated_rows.proofs.reading.read_terms.Given as goal

abbrev pub invariant-loop-t : goal.invariant-loop-t
invariant-loop-t l = IsBelow l.maker (pos l.bin) l.r.loads.items l.r.least.value (take l.t-index l.terms)
