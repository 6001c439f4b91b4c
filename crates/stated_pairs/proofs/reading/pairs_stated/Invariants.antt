use Rattle.std.proofs.Common.{All}
use Rattle.stated_pairs.specs.Apart.{IsApart}
use Rattle.stated_pairs.proofs.reading.pairs_stated.Given as goal

abbrev pub invariant-loop-p : goal.invariant-loop-p
invariant-loop-p l = All (IsApart l.maker) l.out.items
