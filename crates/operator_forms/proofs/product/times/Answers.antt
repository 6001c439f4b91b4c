use Rattle.std.proofs.Common.{[]}
use Rattle.form_build.proofs.Growth.{adds_nothing}
use Rattle.operator_forms.proofs.product.times.Goals as goal

pub returns-then-is_light-clause-adds : goal.returns-then-is_light-clause-adds
returns-then-is_light-clause-adds c = adds_nothing [] c.args.maker.now
