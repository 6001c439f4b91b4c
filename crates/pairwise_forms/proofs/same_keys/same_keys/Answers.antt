use Rattle.std.proofs.Common.{[]}
use Rattle.form_build.proofs.Growth.{adds_nothing}
use Rattle.pairwise_forms.proofs.same_keys.same_keys.Goals as goal

pub returns-then-x-y-clause-adds : goal.returns-then-x-y-clause-adds
returns-then-x-y-clause-adds c = adds_nothing [] c.args.maker.now

pub returns-then-are_apart-clause-adds : goal.returns-then-are_apart-clause-adds
returns-then-are_apart-clause-adds c = adds_nothing [] c.args.maker.now
