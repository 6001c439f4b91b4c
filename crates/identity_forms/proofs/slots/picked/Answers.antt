use Rattle.std.proofs.Common.{[], length}
use Rattle.form_build.proofs.Growth.{adds_nothing}
use Rattle.identity_forms.proofs.SlotLaws.{all_exist}
use Rattle.identity_forms.proofs.slots.picked.Goals as goal

pub returns-in-Some-clause-exists : goal.returns-in-Some-clause-exists
returns-in-Some-clause-exists c = all_exist (length c.args.maker.now.domains) c.in-Some.y c.args.items.now c.in-Some.ensures c.requires.variables

pub returns-in-Some-clause-adds : goal.returns-in-Some-clause-adds
returns-in-Some-clause-adds c = adds_nothing [] c.args.maker.now
