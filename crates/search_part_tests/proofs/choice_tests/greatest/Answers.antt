use Rattle.std.proofs.Common.{arith}
use Rattle.search_part_tests.proofs.choice_tests.greatest.Goals as goal

pub greatest_split-requires-clause-there : goal.greatest_split-requires-clause-there
greatest_split-requires-clause-there c =
    let searched = (c.first.ensures.split _ c.in-Some.is).undecided.searched in
    let boxed = c.requires.boxed in
    omega arith
