use Rattle.std.proofs.Common.{[]}
use Rattle.form_build.proofs.Growth.{adds_nothing}
use Rattle.form_truths.proofs.tests.truth_of_test.Goals as goal

pub returns-in_ok-t-in-Holds-clause-adds : goal.returns-in_ok-t-in-Holds-clause-adds
returns-in_ok-t-in-Holds-clause-adds c = adds_nothing [] c.args.m.now
