use Rattle.std.proofs.Common.{[]}
use Rattle.form_build.proofs.Growth.{adds_nothing}
use Rattle.identity_forms.proofs.same.same_choice.Goals as goal

pub returns-in_ok-t-in-Fixed-clause-adds : goal.returns-in_ok-t-in-Fixed-clause-adds
returns-in_ok-t-in-Fixed-clause-adds c = adds_nothing [] c.args.maker.now
