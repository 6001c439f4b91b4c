use Rattle.std.proofs.Common.{[]}
use Rattle.form_build.proofs.Growth.{adds_nothing}
use Rattle.pairwise_forms.proofs.keys.choice_key.Goals as goal

pub returns-in-Cell-clause-adds : goal.returns-in-Cell-clause-adds
returns-in-Cell-clause-adds c = adds_nothing [] c.args.maker.now
