use Rattle.std.proofs.Common.{subst, length}
use Rattle.conf_types.specs.Checked.{IsRead}
use Rattle.conf_types.specs.Readings.{read}
use Rattle.conf_types.proofs.TypedParts.{truth_typed, class_there}
use Rattle.conf_types.proofs.checker.check_constraint.Goals as goal

pub returns-in-Ok-clause-typed : goal.returns-in-Ok-clause-typed
returns-in-Ok-clause-typed c =
    let o = c.args.table.now in
    let h = subst (λ s. IsRead c.in-Ok.x (read o s c.args.expr.now)) c.outside-scope.ensures.scope c.in-Ok.ensures.read in
    record {
      class = class_there (length o.classes) c.args.class c.requires.class;
      type = truth_typed o c.requires.sound.closed c.args.class c.args.expr.now c.in-Ok.x h c.in-Ok.ensures.met;
    }
