use Rattle.std.proofs.Common.{sym, subst, length}
use Rattle.conf_types.specs.Checked.{AreLocals}
use Rattle.conf_types.proofs.scope.sense_of.Goals as goal

pub returns-clause-exists : goal.returns-clause-exists
returns-clause-exists c =
    c.nearest.ensures.exists c.args.table.now (c.own_or.ensures.exists c.args.table.now c.declared_sense-declared.ensures.exists c.own_named-own.ensures.exists)
    (subst (AreLocals (length c.args.table.now.classes)) (sym c.deref.ensures.value) c.requires.scope.locals)
