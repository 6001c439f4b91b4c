use Rattle.std.proofs.Common.{[], refl}
use Rattle.form_build.proofs.Growth.{adds_nothing}
use Rattle.form_build.proofs.Steps.{defined_adds}
use Rattle.form_build.proofs.Flags.{defined_some}
use Rattle.form_build.proofs.Joins.{when_some}
use Rattle.form_build.proofs.ValuesMade.{when_made}
use Rattle.form_build.proofs.values.when.Goals as goal

pub returns-then-has_box-clause-adds : goal.returns-then-has_box-clause-adds
returns-then-has_box-clause-adds c = adds_nothing [] c.args.b.now

pub returns-clause-variable : goal.returns-clause-variable
returns-clause-variable c = when_made c.args.b.now c.when.new.self c.in_ok-x.x c.args.flag c.args.item _ c.in_ok-x.ensures.ok c.in_ok-x.ensures.means

pub returns-clause-adds : goal.returns-clause-adds
returns-clause-adds c = defined_adds c.args.b.now c.when.new.self c.in_ok-x.x _ _ refl c.in_ok-x.ensures.ok

pub returns-clause-some : goal.returns-clause-some
returns-clause-some c h = defined_some c.args.b.now c.when.new.self c.in_ok-x.x _ _ (when_some c.args.item c.args.b.now.domains) c.in_ok-x.ensures.ok h
