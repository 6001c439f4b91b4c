use Rattle.std.proofs.Common.{[]}
use Rattle.form_build.proofs.Growth.{adds_nothing}
use Rattle.identity_forms.proofs.same.same_as_mapped.Goals as goal

pub returns-in-Fixed-clause-adds : goal.returns-in-Fixed-clause-adds
returns-in-Fixed-clause-adds c = adds_nothing [] c.args.maker.now
