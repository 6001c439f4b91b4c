use Rattle.stated_pairs.proofs.PairLaws.{AllDifferFrom}
use Rattle.stated_pairs.proofs.differing.are_apart.Given as goal

abbrev pub invariant-loop-i : goal.invariant-loop-i
invariant-loop-i l = AllDifferFrom l.pairs l.vars l.i
