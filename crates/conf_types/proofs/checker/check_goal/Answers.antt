use Rattle.std.proofs.Common.{subst, None}
use Rattle.conf_types.specs.Checked.{IsRead}
use Rattle.conf_types.specs.Readings.{read}
use Rattle.conf_types.proofs.TypedParts.{int_typed}
use Rattle.conf_types.proofs.checker.check_goal.Goals as goal

pub returns-in-Ok-clause-typed : goal.returns-in-Ok-clause-typed
returns-in-Ok-clause-typed c =
    let o = c.args.table.now in
    let h = subst (λ s. IsRead c.in-Ok.x (read o s c.args.decl.now.expr)) c.outside-scope.ensures.scope c.in-Ok.ensures.read in
    int_typed o c.requires.sound.closed None c.args.decl.now.expr c.in-Ok.x h c.in-Ok.ensures.met
