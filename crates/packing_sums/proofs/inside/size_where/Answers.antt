use Rattle.std.proofs.Common.{[]}
use Rattle.form_build.proofs.Growth.{adds_nothing}
use Rattle.packing_sums.proofs.inside.size_where.Goals as goal

pub returns-in-Fixed-true-clause-adds : goal.returns-in-Fixed-true-clause-adds
returns-in-Fixed-true-clause-adds c = adds_nothing [] c.args.maker.now

pub returns-in-Fixed-false-clause-adds : goal.returns-in-Fixed-false-clause-adds
returns-in-Fixed-false-clause-adds c = adds_nothing [] c.args.maker.now
