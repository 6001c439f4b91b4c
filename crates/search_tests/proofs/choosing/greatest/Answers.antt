use Rattle.std.proofs.Common.{arith}
use Rattle.search_tests.proofs.choosing.greatest.Goals as goal

pub greatest_split-requires-clause-there : goal.greatest_split-requires-clause-there
greatest_split-requires-clause-there c =
    let split = c.first.ensures.split _ c.in-Some.is in
    let below = split.undecided.searched in
    let boxed = c.requires.boxed in
    omega arith
