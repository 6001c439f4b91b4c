use Rattle.std.proofs.Common.{refl}
use Rattle.rule_law.proofs.NumberLists.{number_at}
use Rattle.rule_law.proofs.probing.first_culprit.Goals as goal

pub returns-in-Some-clause-var : goal.returns-in-Some-clause-var
returns-in-Some-clause-var c = number_at _ c.args.vars.now c.loop-x.x-index 0 c.loop-x-test.true refl
