use Rattle.std.proofs.Common.{All}
use Rattle.stated_pairs.specs.Apart.{IsApart}
use Rattle.stated_pairs.proofs.reading.pairs_read.Given as goal

abbrev pub invariant-loop-k : goal.invariant-loop-k
invariant-loop-k l = All (IsApart l.maker) l.pairs.items
