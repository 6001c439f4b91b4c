use Rattle.std.proofs.Common.{[]}
use Rattle.form_build.proofs.Growth.{adds_nothing}
use Rattle.operator_forms.proofs.truths.same_truths.Goals as goal

pub returns-in-Some-clause-adds : goal.returns-in-Some-clause-adds
returns-in-Some-clause-adds c = adds_nothing [] c.args.maker.now

pub returns-in-Some-fixed-clause-adds : goal.returns-in-Some-fixed-clause-adds
returns-in-Some-fixed-clause-adds c = adds_nothing [] c.args.maker.now
